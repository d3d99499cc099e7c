-- What is proved of an incarnation exchange by exchange, and the guarantee that follows.
use Rattle.node_laws.proofs.Prelude.{All, ◌≡◌, ℕ, zero, suc, ◌<◌, ◌≤◌, Bool, true, false, List, [], ◌∷◌, length, drop, refl, Some}
use Rattle.node_laws.proofs.Prelude.{slice_get, PlainSegment, has_fin, has_rst, IsSnapshot, first_mss, occupies_sequence_space, Alike}
use Rattle.node_laws.proofs.Prelude.{append_nothing, prefix_refl, Exchange, sent_at, CarriesByte, IsReceived, Account, OutputModel, Begins}
use Rattle.node_laws.proofs.Prelude.{IsSelection, SendsSlice, Acknowledges, IsAcknowledged, IsExtendedBy}
use Rattle.node_laws.proofs.Speaking.{IsReported}

-- a FIN was sent
pub record HasEnded (incarnation : List Exchange) : Type 0 where
  pub place : ℕ
  pub exchange : Exchange
  pub segment : PlainSegment
  pub there : slice_get incarnation place ≡ Some exchange
  pub output : exchange.output ≡ Some segment
  pub fin : has_fin segment.flags ≡ true

abbrev pub Unended : List Exchange → Type 0
Unended incarnation = HasEnded incarnation → ⊥

pub record Kept (model : OutputModel) (incarnation : List Exchange) : Type 0 where
  pub account : Account
  pub ended : Bool
  pub begins : Begins incarnation account
  pub taken : IsSelection account.irs incarnation account.input ended
  pub in_range : All IsSnapshot account.snapshots
  pub sent : IsReceived account.iss incarnation account.stream
  pub says : (k : ℕ) (x : Exchange) (s : PlainSegment) → slice_get incarnation k ≡ Some x → x.output ≡ Some s → SendsSlice account.iss account.stream s
  pub short : (k : ℕ) (x : Exchange) (s : PlainSegment) → slice_get incarnation k ≡ Some x → x.output ≡ Some s → length s.text ≤ first_mss account.peer_mss
  pub acknowledges : (k : ℕ) (x : Exchange) (s : PlainSegment) → slice_get incarnation k ≡ Some x → x.output ≡ Some s → has_rst s.flags ≡ false
      → Acknowledges account.irs (drop k incarnation) account.input s
  pub same : length account.stream < 1073741824 → (i j : ℕ) (x y : Exchange) (s t : PlainSegment) → i < j → slice_get incarnation i ≡ Some x
      → slice_get incarnation j ≡ Some y → x.output ≡ Some s → y.output ≡ Some t → occupies_sequence_space s ≡ true
      → occupies_sequence_space t ≡ true → s.seq ≡ t.seq → Alike t s
  pub one : (i j : ℕ) (x y : Exchange) (s t : PlainSegment) → i < j → slice_get incarnation i ≡ Some x → slice_get incarnation j ≡ Some y
      → x.output ≡ Some s → y.output ≡ Some t → occupies_sequence_space s ≡ true → occupies_sequence_space t ≡ true → (s.seq ≡ t.seq → ⊥)
      → IsAcknowledged incarnation i j t
  pub of_page : IsReported model (HasEnded incarnation) account.input account.snapshots account.stream

pub grows_refl : (a : Account) → IsExtendedBy a a
grows_refl a = record {
  irs = refl;
  iss = refl;
  peer_mss = refl;
  input = prefix_refl a.input;
  snapshots = ([], append_nothing a.snapshots);
  stream = prefix_refl a.stream;
}

-- the exchange in which something was sent
pub record SentIn (incarnation : List Exchange) (k : ℕ) (s : PlainSegment) : Type 0 where
  pub exchange : Exchange
  pub there : slice_get incarnation k ≡ Some exchange
  pub output : exchange.output ≡ Some s

pub sent_text_in : (incarnation : List Exchange) (k : ℕ) (s : PlainSegment) → sent_at incarnation k ≡ Some s → SentIn incarnation k s
sent_text_in [] k s h = absurd (cc)
sent_text_in (x ∷ incarnation) zero s h = record { exchange = x; there = refl; output = h }
sent_text_in (x ∷ incarnation) (suc k) s h = let r = sent_text_in incarnation k s h in record { exchange = r.exchange; there = r.there; output = r.output }

-- what was received before is received
pub received_on : (iss : ℕ) (x : Exchange) (incarnation : List Exchange) (text : List ℕ) → IsReceived iss incarnation text
    → IsReceived iss (x ∷ incarnation) text
received_on iss x incarnation text h at byte e =
    (let c : CarriesByte iss incarnation at byte = h at byte e in
    record { place = suc c.place; segment = c.segment; output = c.output; from = c.from; seq = c.seq; within = c.within; sum = c.sum; is = c.is })
