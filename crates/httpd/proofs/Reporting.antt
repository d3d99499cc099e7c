-- The states after a piece was delivered.
use Rattle.httpd.proofs.Prelude.{◌≡◌, ℕ, ◌≤◌, List, ◌++◌, Option, None, Some, length, drop, refl, sym, ap, subst, ◌∙◌, arith, AppState}
use Rattle.httpd.proofs.Prelude.{File, file_named, FileId, SiteContent, files_of, Wanted, wanted, Name, NotYet, Refused, ScriptFunctions}
use Rattle.httpd.proofs.Prelude.{reply_pieces_by, reply_to_by, reach_by, text_by, hits_by, more_by, Pages, Stage, Head, FileReply, calls_in}
use Rattle.httpd.proofs.Prelude.{found_file, left_from, reply_by, Fits, IsFound, KeepsDirective, ReceivesMethod, ReceivesTarget, IsDecided}
use Rattle.httpd.proofs.Prelude.{PagesRepresent, IsLeft, IsReplying, SendsNothing, IsRepresentedIn}
use Rattle.httpd.specs.declared.stage.Stage.TheVariants as stage

-- from the start of its head a reply generates its pieces
pub reply_start : {F : Type 0} (g : ScriptFunctions F) (files : List File) (file : Option File) (made : List ℕ)
    → left_from (record { functions = g; files = files; file = file; made = made }) (Head 0) ≡ reply_to_by g.function_table.named files file
unfolding left_from
reply_start g files None made = refl
reply_start g files (Some file) made = refl

prefix_left : {F : Type 0} (r : FileReply F) (name : List ℕ) (p : AppState) → r.file ≡ file_named r.files name → SendsNothing p → IsLeft r (Head 0) name p
prefix_left r name p e none =
    let pieces : left_from r (Head 0) ≡ reply_pieces_by r.functions.function_table.named r.files name = reply_start r.functions r.files
    r.file r.made ∙ ap (reply_to_by r.functions.function_table.named r.files) e in
    record {
      text = λ later. ap (λ ps. text_by r.functions r.files ps later) pieces
          ∙ (λ i. drop (sym none.acked i) (text_by r.functions r.files (reply_pieces_by r.functions.function_table.named r.files name)
          (sym none.snapshots i ++ later)));
      whole = λ later. ap (λ ps. reach_by r.functions ps later) pieces
          ∙ ap (λ ks. reach_by r.functions (reply_pieces_by r.functions.function_table.named r.files name) (ks ++ later)) (sym none.snapshots);
      calls = omega (arith, ap length none.snapshots, ap (calls_in r.functions.function_table) pieces);
      within = subst (λ n. n ≤ length (text_by r.functions r.files (reply_pieces_by r.functions.function_table.named r.files name)
          p.snapshots)) (sym none.acked) (omega arith);
    }

pub prefix_fits : {F : Type 0} (r : FileReply F) → Fits r (Head 0)
unfolding Fits
prefix_fits r = omega arith

begins : {F R : Type 0} (g : ScriptFunctions F) (text : R → List ℕ) (a : Pages R) (site : SiteContent) (p : AppState)
    (found : Option FileId) (name : List ℕ) → a.thread ≡ Head 0 → SendsNothing p → wanted p.input ≡ Name name → IsFound (files_of site) found
    → found_file (files_of site) found ≡ file_named (files_of site) name → IsReplying g text a site name found p
begins g text a site p found name e none is there file = record {
  wanted = is;
  there = there;
  file = file;
  fits = subst (λ t. Fits (reply_by g text site found a.capture) t) (sym e) (prefix_fits (reply_by g text site found a.capture));
  kept = subst (λ t. KeepsDirective (reply_by g text site found a.capture) p.snapshots t) (sym e) tt;
  left = subst (λ t. IsLeft (reply_by g text site found a.capture) t name p) (sym e) (prefix_left (reply_by g text site found a.capture) name p file none);
}

-- where a stage was decided
pub decided_represents : {F R : Type 0} (g : ScriptFunctions F) (text : R → List ℕ) (a : Pages R) (site : SiteContent) (p : AppState)
    (s : Stage) → a.thread ≡ Head 0 → SendsNothing p → IsDecided (files_of site) a.line p.input s → IsRepresentedIn g text a site p s
decided_represents g text a site p stage.Method e none is = (is, none)
decided_represents g text a site p stage.Target e none is = (is, none)
decided_represents g text a site p stage.Refused e none is = (is, none)
decided_represents g text a site p (stage.Reply found) e none is = (is.name, begins g text a site p found is.name e none is.wanted is.there is.file)

abbrev pub with_more : AppState → List ℕ → AppState
with_more p piece = record p { input = p.input ++ piece; polls = 0 }

still_nothing : (p : AppState) (piece : List ℕ) → SendsNothing p → SendsNothing (with_more p piece)
still_nothing p piece none = record { snapshots = none.snapshots; acked = none.acked }

pub method_received : {F R : Type 0} (g : ScriptFunctions F) (text : R → List ℕ) (a : Pages R) (site : SiteContent) (p : AppState)
    → a.stage ≡ stage.Method → PagesRepresent g text a site p → ReceivesMethod a.line p.input × SendsNothing p
method_received g text a site p e s = subst (λ st. IsRepresentedIn g text a site p st) e s.represented

pub target_received : {F R : Type 0} (g : ScriptFunctions F) (text : R → List ℕ) (a : Pages R) (site : SiteContent) (p : AppState)
    → a.stage ≡ stage.Target → PagesRepresent g text a site p → ReceivesTarget a.line p.input × SendsNothing p
target_received g text a site p e s = subst (λ st. IsRepresentedIn g text a site p st) e s.represented

pub refused_received : {F R : Type 0} (g : ScriptFunctions F) (text : R → List ℕ) (a : Pages R) (site : SiteContent) (p : AppState)
    → a.stage ≡ stage.Refused → PagesRepresent g text a site p → (wanted p.input ≡ Refused) × SendsNothing p
refused_received g text a site p e s = subst (λ st. IsRepresentedIn g text a site p st) e s.represented

-- a request that a piece may decide
pub received_represents : {F R : Type 0} (g : ScriptFunctions F) (text : R → List ℕ) (a b : Pages R) (site : SiteContent) (p : AppState)
    (piece : List ℕ) → SendsNothing p → b.thread ≡ Head 0 → b.polls ≡ 0 → IsDecided (files_of site) b.line (p.input ++ piece) b.stage
    → PagesRepresent g text b site (with_more p piece)
received_represents g text a b site p piece none e polls is =
    record { polls = polls; represented = decided_represents g text b site (with_more p piece) b.stage e (still_nothing p piece none) is }

-- a request that was decided
pub reply_stays : {F R : Type 0} (g : ScriptFunctions F) (text : R → List ℕ) (a : Pages R) (site : SiteContent) (p : AppState)
    (piece : List ℕ) (found : Option FileId) → a.stage ≡ stage.Reply found → PagesRepresent g text a site p
    → PagesRepresent g text (record a { polls = 0 }) site (with_more p piece)
reply_stays g text a site p piece found e s =
    let is : (name : List ℕ) × IsReplying g text a site name found p = subst (λ st. IsRepresentedIn g text a site p st) e s.represented in
    record {
      polls = refl;
      represented = subst (λ st. IsRepresentedIn g text (record a { polls = 0 }) site (with_more p piece) st) (sym e) (
        is.0,
        record {
          wanted = more_by (Name is.0) p.input piece is.1.wanted (λ h. cc);
          there = is.1.there;
          file = is.1.file;
          fits = is.1.fits;
          kept = is.1.kept;
          left = record { text = is.1.left.text; whole = is.1.left.whole; calls = is.1.left.calls; within = is.1.left.within };
        },
      );
    }

pub refused_stays : {F R : Type 0} (g : ScriptFunctions F) (text : R → List ℕ) (a : Pages R) (site : SiteContent) (p : AppState)
    (piece : List ℕ) → a.stage ≡ stage.Refused → PagesRepresent g text a site p → PagesRepresent g text (record a { polls = 0 }) site (with_more p piece)
refused_stays g text a site p piece e s =
    let is = refused_received g text a site p e s in
    record {
      polls = refl;
      represented = subst (λ st. IsRepresentedIn g text (record a { polls = 0 }) site (with_more p piece) st) (sym e)
          (more_by Refused p.input piece is.0 (λ h. cc), still_nothing p piece is.1);
    }

-- ---- the hits

pub hits_opened : (files : List File) (hits : List ℕ) (before after : Wanted) → before ≡ NotYet → hits_by files hits NotYet after
    ≡ hits_by files hits before after
hits_opened files hits before after e = ap (λ w. hits_by files hits w after) (sym e)
