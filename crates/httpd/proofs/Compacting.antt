-- The states of compact pages, after each call.
use Rattle.httpd.proofs.Prelude.{◌≡◌, ◌≤◌, ℕ, Bool, true, false, List, ◌++◌, Option, length, refl, sym, subst}
use Rattle.httpd.proofs.Prelude.{AppState, CanSupply, IsRepresented, FileId, SiteContent, files_of, ScriptFunctions, Line, wanted}
use Rattle.httpd.proofs.Prelude.{NotYet, Refused, method_open, target_open, CompactPages, Received, Thread, Head, CompactRepresent}
use Rattle.httpd.proofs.Prelude.{ReceivesWord, pages_kept, word_stage, ReceivesTo, IsFileAsked, SendsNothing, Fits, IsFound}
use Rattle.httpd.proofs.Prelude.{reply_by, left_text}
use Rattle.httpd.specs.declared.compact.CompactPages.TheVariants as compact
use Rattle.httpd.specs.declared.stage.Stage.TheVariants as stage
use Rattle.httpd.proofs.Representing.{can_supply, means, reply_fits, reply_found, some_part}
use Rattle.httpd.proofs.Reporting.{decided_represents, with_more}

-- ---- what is received

pub read_as : (d e : Received) (l m : Line) (request : List ℕ) → d ≡ e → l ≡ m → ReceivesTo e m request → ReceivesTo d l request
read_as d e l m request same_d same_l is = subst (λ x. ReceivesTo x l request) (sym same_d) (subst (λ x. ReceivesTo e x request) (sym same_l) is)

-- while a word is received it is kept, and nothing was sent
pub word_received : {F R : Type 0} (g : ScriptFunctions F) (text : R → List ℕ) (site : SiteContent) (p : AppState) (polls : ℕ) (target : Bool) (line : Line)
    → CompactRepresent g text (compact.Receiving polls target line) site p → ReceivesWord target line p.input × SendsNothing p
word_received g text site p polls true line s = s.represented
word_received g text site p polls false line s = s.represented

-- and no file is requested yet
pub word_open : (target : Bool) (line : Line) (request : List ℕ) → ReceivesWord target line request → wanted request ≡ NotYet
word_open true line request received = target_open request received.method_ended received.method received.goes_on
word_open false line request received = method_open request received.goes_on

pub word_quiet : (target : Bool) (found : Option FileId) → word_stage target ≡ stage.Reply found → ⊥
word_quiet true found e = cc
word_quiet false found e = cc

still_nothing : (p : AppState) (piece : List ℕ) → SendsNothing p → SendsNothing (with_more p piece)
still_nothing p piece none = record { snapshots = none.snapshots; acked = none.acked }

pub enters_word : {F R : Type 0} (g : ScriptFunctions F) (text : R → List ℕ) (site : SiteContent) (p : AppState) (piece : List ℕ) (target : Bool) (line : Line)
    → SendsNothing p → ReceivesWord target line (p.input ++ piece) → CompactRepresent g text (compact.Receiving 0 target line) site (with_more p piece)
enters_word g text site p piece true line quiet is = record { polls = refl; represented = (is, still_nothing p piece quiet) }
enters_word g text site p piece false line quiet is = record { polls = refl; represented = (is, still_nothing p piece quiet) }

pub enters_refused : {F R : Type 0} (g : ScriptFunctions F) (text : R → List ℕ) (site : SiteContent) (p : AppState) (piece : List ℕ)
    → SendsNothing p → wanted (p.input ++ piece) ≡ Refused → CompactRepresent g text (compact.Refused 0) site (with_more p piece)
enters_refused g text site p piece quiet is = record { polls = refl; represented = (is, still_nothing p piece quiet) }

pub enters_reply : {F R : Type 0} (g : ScriptFunctions F) (text : R → List ℕ) (site : SiteContent) (p : AppState) (piece : List ℕ)
    (found : Option FileId) (none : R)
    → SendsNothing p → IsFileAsked (files_of site) (wanted (p.input ++ piece)) found
    → CompactRepresent g text (compact.Replying 0 found (Head 0) none) site (with_more p piece)
enters_reply g text site p piece found none quiet is = record {
  polls = refl;
  represented = decided_represents g (λ made. made) (pages_kept text (compact.Replying 0 found (Head 0) none)) site (with_more p piece)
      (stage.Reply found) refl (still_nothing p piece quiet) is;
}

-- ---- while a reply is sent

module _ {F R : Type 0} (g : ScriptFunctions F) (text : R → List ℕ) (site : SiteContent) (a : CompactPages R) (polls : ℕ)
    (found : Option FileId) (thread : Thread) (capture : R) (e : a ≡ compact.Replying polls found thread capture) where
  pub sent_found : IsRepresented (CompactRepresent g text) a site → IsFound (files_of site) found
  sent_found has =
      reply_found g (λ made. made) (pages_kept text (compact.Replying polls found thread capture)) site found refl
      (subst (λ v. IsRepresented (CompactRepresent g text) v site) e has)

  pub sent_fits : IsRepresented (CompactRepresent g text) a site → Fits (reply_by g text site found capture) thread
  sent_fits has =
      reply_fits g (λ made. made) (pages_kept text (compact.Replying polls found thread capture)) site found refl
      (subst (λ v. IsRepresented (CompactRepresent g text) v site) e has)

  pub sent_some : (n : ℕ) → CanSupply (means g) (CompactRepresent g text) a site n → IsRepresented (CompactRepresent g text) a site
  sent_some n can = some_part g (λ made. made) (pages_kept text a) site n can

  pub sent_enough : (n : ℕ) → CanSupply (means g) (CompactRepresent g text) a site n → n ≤ length (left_text (reply_by g text site found capture) thread)
  sent_enough n can =
      can_supply g (λ made. made) (pages_kept text (compact.Replying polls found thread capture)) site n (stage.Reply found) refl
      (subst (λ v. CanSupply (means g) (CompactRepresent g text) v site n) e can)
