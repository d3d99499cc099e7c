-- What a run of bytes does to an Ethernet line.
use Rattle.ethernet_arp.proofs.Prelude.{◌≡◌, ◌++◌, ◌∙◌, ◌&&◌, [], List, ℕ, if◌then◌else◌, true, false, nat_le, take, ap, append-nil, sym}
use Rattle.ethernet_arp.proofs.Prelude.{subst, MediumInput, ReportsBrought, acts_among, all_decoded, Decoded, ether_medium, open_from, Host}
use Rattle.ethernet_arp.proofs.Prelude.{frame_brings, Act, Holds, brought_from, whole_brings, Knows, Arp, FramePart}
use Rattle.ethernet_arp.proofs.PartLaws.{brought_is, open-append}

-- the part after more bytes
pub fed_more : (old new : FramePart) (before bytes : List ℕ) → ((part : List ℕ) → Holds old part → Holds new (open_from part bytes))
    → Holds old (open_from [] before)
    → Holds new (open_from [] (before ++ bytes))
fed_more old new before bytes on h = subst (λ (l : List ℕ). Holds new l) (sym (open-append [] before bytes)) (on (open_from [] before) h)

pub brings_nothing : (k : Host) (before bytes : List ℕ) → brought_from k (open_from [] before) bytes ≡ [] → all_decoded (ether_medium k) before bytes ≡ []
brings_nothing k before bytes e = brought_is k before bytes ∙ e

pub did_nothing : (arp : Arp) (k : Host) (before bytes : List ℕ) (acts : List Act) → brought_from k (open_from [] before) bytes ≡ [] → Knows arp acts
    → Knows arp (acts ++ acts_among (all_decoded (ether_medium k) before bytes))
did_nothing arp k before bytes acts e h =
    subst (λ (l : List (MediumInput Act)). Knows arp (acts ++ acts_among l)) (sym (brings_nothing k before bytes e))
    (subst (λ (l : List Act). Knows arp l) (sym (append-nil acts)) h)

-- a whole frame that is taken, and one that is not
pub whole_frame : (k : Host) (p : FramePart) → (nat_le 14 p.len && nat_le p.len 1514) ≡ true → whole_brings k p ≡ frame_brings k (take p.len p.area)
whole_frame k p e = ap (λ v. if v then frame_brings k (take p.len p.area) else []) e

pub whole_none : (k : Host) (p : FramePart) → (nat_le 14 p.len && nat_le p.len 1514) ≡ false → whole_brings k p ≡ []
whole_none k p e = ap (λ v. if v then frame_brings k (take p.len p.area) else []) e

-- at a whole frame, of a host that is set as k
module _ (k host : Host) (p : FramePart) (before bytes : List ℕ) where
  brings_frame : host ≡ k → brought_from k (open_from [] before) bytes ≡ whole_brings k p → (nat_le 14 p.len && nat_le p.len 1514) ≡ true
      → frame_brings host (take p.len p.area) ≡ all_decoded (ether_medium k) before bytes
  brings_frame is e t =
      ap (λ (h : Host). frame_brings h (take p.len p.area)) is ∙ sym (brought_is k before bytes ∙ e ∙ whole_frame k p t)

  pub reported_whole : (shown : List ℕ) (brought : Decoded) → host ≡ k → brought_from k (open_from [] before) bytes ≡ whole_brings k p
      → (nat_le 14 p.len && nat_le p.len 1514) ≡ true
      → ReportsBrought (ether_medium host) shown brought (frame_brings host (take p.len p.area)) → ReportsBrought (ether_medium k) shown
      brought (all_decoded (ether_medium k) before bytes)
  reported_whole shown brought is e t reported =
      subst (λ (h : Host). ReportsBrought (ether_medium h) shown brought (all_decoded (ether_medium k) before bytes)) is
      (subst (λ (l : List (MediumInput Act)). ReportsBrought (ether_medium host) shown brought l) (brings_frame is e t) reported)

  pub did_whole : (arp : Arp) (acts : List Act) → host ≡ k → brought_from k (open_from [] before) bytes ≡ whole_brings k p
      → (nat_le 14 p.len && nat_le p.len 1514) ≡ true
      → Knows arp (acts ++ acts_among (frame_brings host (take p.len p.area))) → Knows arp (acts ++ acts_among (all_decoded (ether_medium k) before bytes))
  did_whole arp acts is e t h = subst (λ (l : List (MediumInput Act)). Knows arp (acts ++ acts_among l)) (brings_frame is e t) h
