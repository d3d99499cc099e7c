-- What holds for a datagram that passes every check.
-- [add: fate] IP: what holds of a datagram that passes the further check.
use Rattle.uip_ipv4.proofs.Prelude.{◌≡◌, ℕ, ◌%◌, ◌≤◌, Bool, true, false, not, ◌||◌, List, length, take, slice_index, refl, sym, ap, arith}
use Rattle.uip_ipv4.proofs.Prelude.{ltb, eqb, if◌then◌else◌, Ok, Err, Result, Option, Some, None, common_steps, bytes_eq, address_at}
use Rattle.uip_ipv4.proofs.Prelude.{checksum_of, word_at, Proto, IpHead, IpFate, Short, Version, Length, Fragment, Checksum, NotOurs}
use Rattle.uip_ipv4.proofs.Prelude.{head_or_fate, head_by, proto_of, IsHeadOf}

all_passed : (short version length fragment sum other : Bool) (rest : Result IpHead IpFate) (head : IpHead)
    → (if short then Err Short else if version then Err Version else if length then Err Length else if fragment then Err Fragment else if
    sum then Err Checksum else if other then Err NotOurs else rest) ≡ Ok head
    → (length ≡ false) × (sum ≡ false) × (rest ≡ Ok head)
all_passed true version length fragment sum other rest head e = cc
all_passed false true length fragment sum other rest head e = cc
all_passed false false true fragment sum other rest head e = cc
all_passed false false false true sum other rest head e = cc
all_passed false false false false true other rest head e = cc
all_passed false false false false false true rest head e = cc
all_passed false false false false false false rest head e = (refl, refl, e)

fits : (total received : ℕ) → ltb total 20 || ltb received total ≡ false → (20 ≤ total) × (total ≤ received)
fits total received e = (grind (arith, common_steps), grind (arith, common_steps))

pub record HeadFacts (head : IpHead) (bytes : List ℕ) : Type 0 where
  pub total : head.total ≡ word_at bytes 2
  pub least : 20 ≤ head.total
  pub most : head.total ≤ length bytes
  pub source : head.source.0 ≡ address_at bytes 12
  pub target : head.target.0 ≡ address_at bytes 16
  pub sum : checksum_of (take 20 bytes) ≡ 0
  pub fields : head_by (proto_of (slice_index bytes 9)) bytes ≡ Ok head

no_sum : (sum : ℕ) → not (eqb sum 0) ≡ false → sum ≡ 0
no_sum sum h = grind (arith, common_steps)

pub record Fields (head : IpHead) (bytes : List ℕ) : Type 0 where
  pub total : head.total ≡ word_at bytes 2
  pub source : head.source.0 ≡ address_at bytes 12
  pub target : head.target.0 ≡ address_at bytes 16

reported : (proto : Option Proto) (bytes : List ℕ) (head : IpHead) → head_by proto bytes ≡ Ok head → Fields head bytes
reported None bytes head e = cc
reported (Some proto) bytes head e =
    let same : record {
      total = word_at bytes 2;
      proto = proto;
      source = record { 0 = address_at bytes 12 };
      target = record { 0 = address_at bytes 16 };
    } ≡ head = cc in
    record {
      total = sym (ap (λ (h : IpHead). h.total) same);
      source = sym (ap (λ (h : IpHead). h.source.0) same);
      target = sym (ap (λ (h : IpHead). h.target.0) same);
    }

pub facts_at : (own bytes : List ℕ) (head : IpHead) → head_or_fate bytes own ≡ Ok head → HeadFacts head bytes
unfolding head_or_fate
facts_at own bytes head is =
    let p =
    all_passed (ltb (length bytes) 20) (not (eqb (slice_index bytes 0) 69))
    (ltb (word_at bytes 2) 20 || ltb (length bytes) (word_at bytes 2)) (not (eqb (word_at bytes 6 % 16384) 0))
    (not (eqb (checksum_of (take 20 bytes)) 0)) (not (bytes_eq (address_at bytes 16) own))
    (head_by (proto_of (slice_index bytes 9)) bytes) head is in
    let f : Fields head bytes = reported (proto_of (slice_index bytes 9)) bytes head p.2 in
    let b = fits (word_at bytes 2) (length bytes) p.0 in
    record {
      total = f.total;
      least = rw f.total b.0;
      most = rw f.total b.1;
      source = f.source;
      target = f.target;
      sum = no_sum (checksum_of (take 20 bytes)) p.1;
      fields = p.2;
    }

pub head_facts : (head : IpHead) (bytes : List ℕ) → IsHeadOf head bytes → HeadFacts head bytes
head_facts head bytes is = facts_at head.target.0 bytes head is
