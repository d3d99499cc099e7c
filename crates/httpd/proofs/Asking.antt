-- What is wanted, and the capture that is taken, for each part that a value stands for.
use Rattle.httpd.proofs.Prelude.{◌≡◌, ◌+◌, ℕ, ◌≤◌, ◌==◌, ◌&&◌, min, Bool, true, false, not, List, [], ◌∷◌, ◌++◌, Option, length, drop}
use Rattle.httpd.proofs.Prelude.{nat_lt, refl, sym, ap, subst, ◌∙◌, arith, append_assoc, append-nil, length-append, length-drop}
use Rattle.httpd.proofs.Prelude.{if◌then◌else◌, inl, inr, map, codes, cases_eq, eq-eqb, eqb-true, ne_eqb, Snapshot, AppState, Nothing, Send}
use Rattle.httpd.proofs.Prelude.{Close, Abort, File, FileId, SiteContent, files_of, ScriptFunctions, Wanted, wanted, Name}
use Rattle.httpd.proofs.Prelude.{pieces_by, ScriptPiece, kind_line, reply_pieces_by, piece_output, Made, Plain, is_whole_by, made_by}
use Rattle.httpd.proofs.Prelude.{page_by, page_for_by, reach_by, text_by, whole_for_by, is_acknowledged_by, left_of_by}
use Rattle.httpd.proofs.Prelude.{waits_for_capture_by, web_want_by, made_end, made_first, stopped_end, stopped_text, text_grows, Pages}
use Rattle.httpd.proofs.Prelude.{Thread, Head, Kind, Body, Inside, Making, End, Due, FileReply, body, body_from, calls_in, head_text}
use Rattle.httpd.proofs.Prelude.{is_scripted, kind_text, left_from, reply_by, Fits, IsInner, KeepsDirective, SeesCall, IsDueReply, IsNotDue}
use Rattle.httpd.proofs.Prelude.{left_text, left_whole, PagesRepresent, IsLeft, IsReplying, SendsNothing, IsRepresentedIn}
use Rattle.httpd.specs.declared.stage.Stage.TheVariants as stage
use Rattle.httpd.proofs.Representing.{replying}
use Rattle.httpd.proofs.Walking.{call_before}

-- what is left of the page of a reply
abbrev text_of : {F R : Type 0} → ScriptFunctions F → (R → List ℕ) → Pages R → SiteContent → Option FileId → List ℕ
text_of g text a site found = left_text (reply_by g text site found a.capture) a.thread

abbrev end_of : {F R : Type 0} → ScriptFunctions F → (R → List ℕ) → Pages R → SiteContent → Option FileId → Bool
end_of g text a site found = left_whole (reply_by g text site found a.capture) a.thread

record WasSentIn {F : Type 0} (g : ScriptFunctions F) (files : List File) (p : AppState) (text : List ℕ) (whole : Bool) : Type 0 where
  left : left_of_by g files p ≡ length text
  ends : is_whole_by g files p.input p.snapshots ≡ whole
  within : p.acked ≤ length (page_by g files p.input p.snapshots)

is_sent : {F R : Type 0} (g : ScriptFunctions F) (text : R → List ℕ) (a : Pages R) (site : SiteContent) (found : Option FileId)
    (p : AppState) (name : List ℕ) → IsReplying g text a site name found p → WasSentIn g (files_of site) p (text_of g text a site found)
    (end_of g text a site found)
is_sent g text a site found p name is =
    let files = files_of site in
    let own : page_by g files p.input p.snapshots ≡ text_by g files (reply_pieces_by g.function_table.named files name) p.snapshots = ap
    (λ w. page_for_by g files w p.snapshots) is.wanted in
    let ends : is_whole_by g files p.input p.snapshots ≡ reach_by g (reply_pieces_by g.function_table.named files name) p.snapshots = ap
    (λ w. whole_for_by g files w p.snapshots) is.wanted in
    let rest : text_of g text a site found ≡ drop p.acked (text_by g files (reply_pieces_by g.function_table.named files name) p.snapshots) =
    is.left.text [] ∙ ap (λ ks. drop p.acked (text_by g files (reply_pieces_by g.function_table.named files name) ks)) (append-nil p.snapshots) in
    let size = ap length own in
    record {
      left = omega (arith, size, ap length rest, length-drop p.acked (text_by g files (reply_pieces_by g.function_table.named files name) p.snapshots));
      ends = ends ∙ ap (λ ks. reach_by g (reply_pieces_by g.function_table.named files name) ks) (sym (append-nil p.snapshots)) ∙ sym (is.left.whole []);
      within = omega (arith, size, is.left.within);
    }

same_bool : (a b : ℕ) (c d : ℕ) → (a ≡ b → c ≡ d) → (c ≡ d → a ≡ b) → (a == b) ≡ (c == d)
same_bool a b c d f g = elim (cases_eq a b) [
  | inl e ↦ eq-eqb a b e ∙ sym (eq-eqb c d (f e))
  | inr e ↦ ne_eqb a b e ∙ sym (ne_eqb c d (λ h. e (g h)))
]

acked_all : {F : Type 0} (g : ScriptFunctions F) (files : List File) (p : AppState) (text : List ℕ) (whole : Bool)
    → WasSentIn g files p text whole → is_acknowledged_by g files p ≡ (length text == 0)
acked_all g files p text whole output =
    same_bool p.acked (length (page_by g files p.input p.snapshots)) (length text) 0
    (λ e. omega (arith, e, output.left)) (λ e. omega (arith, e, output.left, output.within))

-- ---- what is requested

-- if nothing is sent
nothing_sent : {F : Type 0} (g : ScriptFunctions F) (files : List File) (p : AppState) (w : Wanted) (whole : Bool) → wanted p.input ≡ w
    → page_for_by g files w p.snapshots ≡ [] → whole_for_by g files w p.snapshots ≡ whole → SendsNothing p → WasSentIn g files p [] whole
nothing_sent g files p w whole e text end none =
    let size : length (page_by g files p.input p.snapshots) ≡ 0 = ap (λ v. length (page_for_by g files v p.snapshots)) e ∙ ap length text in
    record {
      left = omega (arith, size, none.acked);
      ends = ap (λ v. whole_for_by g files v p.snapshots) e ∙ end;
      within = omega (arith, none.acked);
    }

pub gives_up : {F : Type 0} (g : ScriptFunctions F) (files : List File) (p : AppState) → p.polls ≡ 20 → Abort ≡ web_want_by g files p
gives_up g files p e =
    sym (ap (λ b. if b then Abort else (if is_whole_by g files p.input p.snapshots && is_acknowledged_by g files p then Close else
    (if nat_lt 0 (left_of_by g files p) then Send (min 1460 (left_of_by g files p)) else Nothing))) (eq-eqb p.polls 20 e))

-- ---- taking a capture

abbrev pub with_capture : AppState → Snapshot → AppState
with_capture p snapshot = record p { snapshots = p.snapshots ++ snapshot ∷ [] }

abbrev pub prepared : {F : Type 0} → ScriptFunctions F → List File → AppState → Snapshot → AppState
prepared g files p snapshot = if is_acknowledged_by g files p && waits_for_capture_by g files (wanted p.input) p then with_capture p snapshot else p

prepared_by : {F : Type 0} (g : ScriptFunctions F) (files : List File) (p : AppState) (snapshot : Snapshot) (b : Bool)
    → (is_acknowledged_by g files p && waits_for_capture_by g files (wanted p.input) p) ≡ b → prepared g files p snapshot
    ≡ (if b then with_capture p snapshot else p)
prepared_by g files p snapshot b e = ap (λ t. if t then with_capture p snapshot else p) e

unless_whole : (b w : Bool) → (b ≡ true → w ≡ true) → (b && not w) ≡ false
unless_whole false w h = refl
unless_whole true w h = ap not (h refl)

abbrev waits_named : {F : Type 0} → ScriptFunctions F → List File → AppState → Bool
waits_named g files p = not (is_whole_by g files p.input p.snapshots)

waits : {F : Type 0} (g : ScriptFunctions F) (files : List File) (p : AppState) (name : List ℕ) → wanted p.input ≡ Name name
    → waits_for_capture_by g files (wanted p.input) p ≡ waits_named g files p
waits g files p name e = ap (λ w. waits_for_capture_by g files w p) e

-- no call is due: the part stays
pub none_due : {F R : Type 0} (g : ScriptFunctions F) (text : R → List ℕ) (a : Pages R) (site : SiteContent) (found : Option FileId)
    (p : AppState) (snapshot : Snapshot) → a.stage ≡ stage.Reply found → IsNotDue (reply_by g text site found a.capture) a.thread
    → PagesRepresent g text a site p
    → prepared g (files_of site) p snapshot ≡ p
none_due g text a site found p snapshot e due s =
    let is = replying g text a site p found e s in
    let output = is_sent g text a site found p is.0 is.1 in
    let stays : (is_acknowledged_by g (files_of site) p && waits_for_capture_by g (files_of site) (wanted p.input) p) ≡ false =
    ap (λ w. is_acknowledged_by g (files_of site) p && w) (waits g (files_of site) p is.0 is.1.wanted)
    ∙ unless_whole (is_acknowledged_by g (files_of site) p) (is_whole_by g (files_of site) p.input p.snapshots)
    (λ h. output.ends ∙ due (eqb-true (length (text_of g text a site found)) 0
    (sym (acked_all g (files_of site) p (text_of g text a site found) (end_of g text a site found) output) ∙ h))) in
    prepared_by g (files_of site) p snapshot false stays

-- In the head text is left, so no call is due.
pub head_not_due : {F : Type 0} (reply : FileReply F) (at : ℕ) → IsNotDue reply (Head at)
unfolding left_from
head_not_due reply at none =
    let later : List ℕ = text_by reply.functions reply.files (body_from reply 0) [] in
    let kind : List ℕ = kind_text reply.file in
    absurd (omega (
      arith,
      none,
      length-append (drop at (head_text reply.file)) (kind_line kind ++ later),
      length-append (kind_line kind) later,
      length-append (codes "Content-type: " ++ kind) (codes "\r\n\r\n"),
      length-append (codes "Content-type: ") kind,
    ))

-- the body of a file that is no script
body_plain : {F : Type 0} (reply : FileReply F) (at : ℕ) → is_scripted reply.file ≡ false → body_from reply at ≡ Plain (drop at (body reply)) ∷ []
body_plain reply at e =
    ap (λ b. if b then map (λ found. piece_output reply.files (body reply) found.piece) (pieces_by reply.functions.function_table.named
    (body reply) at) else Plain (drop at (body reply)) ∷ []) e

-- Only a script waits for captures: what is left of any other reply reaches its end.
pub plain_whole : {F : Type 0} (reply : FileReply F) (thread : Thread) → is_scripted reply.file ≡ false → Fits reply thread → left_whole reply thread ≡ true
unfolding Fits left_from
plain_whole reply (Head at) e fits = ap (λ l. reach_by reply.functions l []) (body_plain reply 0 e)
plain_whole reply (Kind at) e fits = ap (λ l. reach_by reply.functions l []) (body_plain reply 0 e)
plain_whole reply (Body at) e fits = ap (λ l. reach_by reply.functions l []) (body_plain reply at e)
plain_whole reply (Inside next file at) e fits = absurd (let z : true ≡ false = sym fits.0.script ∙ e in cc)
plain_whole reply (Making next at) e fits = absurd (let z : true ≡ false = sym fits.0.script ∙ e in cc)
plain_whole reply End e fits = refl

pub not_due : {F R : Type 0} (g : ScriptFunctions F) (text : R → List ℕ) (a : Pages R) (site : SiteContent) (found : Option FileId)
    (p : AppState) (snapshot : Snapshot) → a.stage ≡ stage.Reply found → IsNotDue (reply_by g text site found a.capture) a.thread
    → PagesRepresent g text a site p
    → PagesRepresent g text a site (prepared g (files_of site) p snapshot)
not_due g text a site found p snapshot e due s =
    subst (λ q. PagesRepresent g text a site q) (sym (none_due g text a site found p snapshot e due s)) s

pub other_inner : {F R : Type 0} (g : ScriptFunctions F) (text : R → List ℕ) (site : SiteContent) (found : Option FileId) (one other : R)
    (next : ℕ) → IsInner (reply_by g text site found one) next → IsInner (reply_by g text site found other) next
other_inner g text site found one other next is = record { script = is.script; goes_on = record { within = is.goes_on.within; between = is.goes_on.between } }

-- ---- a call that is due

-- the value that begins the text of the record of a call
abbrev begins_call : {R : Type 0} → Pages R → R → Thread → Pages R
begins_call a capture next = record a { capture = capture; thread = next }

-- its text then
record Begun {F R : Type 0} (g : ScriptFunctions F) (text : R → List ℕ) (site : SiteContent) (found : Option FileId) (old new : R)
    (pieces : List (ScriptPiece F)) (f : F) (argument : List ℕ) (next : Thread) : Type 0 where
  fits : Fits (reply_by g text site found new) next
  takes : g.function_table.takes_capture f ≡ true
  more : List (ScriptPiece F)
  pieces_are : pieces ≡ Made f argument ∷ more
  piece_output : (later : List Snapshot) → text_by g (files_of site) (left_from (reply_by g text site found new) next) later ≡ text new
      ++ text_by g (files_of site) more later
  ends : (later : List Snapshot) → reach_by g (left_from (reply_by g text site found new) next) later ≡ reach_by g more later
  calls : calls_in g.function_table (left_from (reply_by g text site found new) next) ≡ calls_in g.function_table more

begun : {F R : Type 0} (g : ScriptFunctions F) (text : R → List ℕ) (site : SiteContent) (found : Option FileId) (old new : R)
    (pieces : List (ScriptPiece F)) (f : F) (argument : List ℕ) (next : Thread) → SeesCall (reply_by g text site found old) pieces f argument next
    → Begun g text site found old new pieces f argument next
unfolding Fits left_from
begun g text site found old new pieces f argument next sees =
    let call = call_before (reply_by g text site found old) pieces f argument next sees in
    subst (λ t. Begun g text site found old new pieces f argument t) (sym call.2) (record {
      fits = (other_inner g text site found old new call.0 call.1.inner, omega arith);
      takes = call.1.takes;
      more = body_from (reply_by g text site found old) call.0;
      pieces_are = call.1.first;
      piece_output = λ later. refl;
      ends = λ later. refl;
      calls = refl;
    })

due_left : {F R : Type 0} (g : ScriptFunctions F) (text : R → List ℕ) (a : Pages R) (site : SiteContent) (found : Option FileId)
    (p : AppState) (name : List ℕ) (due : Due F) (capture : R) (snapshot : Snapshot) → IsDueReply (reply_by g text site found a.capture)
    a.thread due → IsReplying g text a site name found p
    → text capture ≡ made_by g (files_of site) due.function due.argument.now snapshot → IsLeft (reply_by g text site found capture) due.next
    name (with_capture p snapshot)
due_left g text a site found p name due capture snapshot is_due is made =
    let files = files_of site in
    let b = begun g text site found a.capture capture is_due.pieces due.function due.argument.now due.next is_due.call in
    let reply = reply_pieces_by g.function_table.named files name in
    record {
      text = λ later.
          b.piece_output later
          ∙ ap (λ prefix. prefix ++ text_by g files b.more later) made
          ∙ sym (made_first g files due.function due.argument.now b.more snapshot later b.takes)
          ∙ ap (λ ps. text_by g files ps (snapshot ∷ later)) (sym b.pieces_are)
          ∙ is_due.history.text (snapshot ∷ later)
          ∙ is.left.text (snapshot ∷ later)
          ∙ ap (λ ks. drop p.acked (text_by g files reply ks)) (sym (append_assoc p.snapshots (snapshot ∷ []) later));
      whole = λ later.
          b.ends later
          ∙ sym (made_end g due.function due.argument.now b.more snapshot later b.takes)
          ∙ ap (λ ps. reach_by g ps (snapshot ∷ later)) (sym b.pieces_are)
          ∙ is_due.history.whole (snapshot ∷ later)
          ∙ is.left.whole (snapshot ∷ later)
          ∙ ap (λ ks. reach_by g reply ks) (sym (append_assoc p.snapshots (snapshot ∷ []) later));
      calls = omega (
        arith,
        length-append p.snapshots (snapshot ∷ []),
        b.calls,
        is.left.calls,
        is_due.history.calls,
        ap (calls_in g.function_table) b.pieces_are,
        ap (λ t. if t then 1 + calls_in g.function_table b.more else calls_in g.function_table b.more) b.takes,
      );
      within =
          let grows = text_grows g files reply p.snapshots (snapshot ∷ []) in
          omega (arith, is.left.within, ap length grows.joined, length-append (text_by g files reply p.snapshots) grows.rest);
    }

-- the record is that of the last capture
taken_by : {F R : Type 0} (g : ScriptFunctions F) (text : R → List ℕ) (site : SiteContent) (found : Option FileId) (old new : R)
    (pieces : List (ScriptPiece F)) (f : F) (argument : List ℕ) (next : Thread) (captures : List Snapshot) (snapshot : Snapshot)
    → SeesCall (reply_by g text site found old) pieces f argument next
    → text new ≡ made_by g (files_of site) f argument snapshot → KeepsDirective (reply_by g text site found new) (captures ++ snapshot ∷ []) next
taken_by g text site found old new pieces f argument next captures snapshot sees made =
    let call = call_before (reply_by g text site found old) pieces f argument next sees in
    subst (λ t. KeepsDirective (reply_by g text site found new) (captures ++ snapshot ∷ []) t) (sym call.2) (record {
      function = f;
      argument = argument;
      earlier = captures;
      last = snapshot;
      directive = call.1.directive;
      takes = call.1.takes;
      taken = refl;
      record_is = made;
    })

-- nothing is left before the call, and the end is not reached
due_waits : {F R : Type 0} (g : ScriptFunctions F) (text : R → List ℕ) (a : Pages R) (site : SiteContent) (found : Option FileId)
    (p : AppState) (name : List ℕ) (due : Due F) → IsDueReply (reply_by g text site found a.capture) a.thread due → IsReplying g text a site name found p
    → (is_acknowledged_by g (files_of site) p && waits_for_capture_by g (files_of site) (wanted p.input) p) ≡ true
due_waits g text a site found p name due is_due is =
    let files = files_of site in
    let output = is_sent g text a site found p name is in
    let b = begun g text site found a.capture a.capture is_due.pieces due.function due.argument.now due.next is_due.call in
    let none : length (text_of g text a site found) ≡ 0 = ap length (sym (is_due.history.text []) ∙ ap (λ ps. text_by g files ps [])
    b.pieces_are ∙ stopped_text g files due.function due.argument.now b.more b.takes) in
    let stops : end_of g text a site found ≡ false = sym (is_due.history.whole []) ∙ ap (λ ps. reach_by g ps []) b.pieces_are
    ∙ stopped_end g due.function due.argument.now b.more b.takes in
    (λ i. (acked_all g files p (text_of g text a site found) (end_of g text a site found) output
    ∙ eq-eqb (length (text_of g text a site found)) 0 none) i && (waits g files p name is.wanted ∙ ap not (output.ends ∙ stops)) i)

pub due_represents : {F R : Type 0} (g : ScriptFunctions F) (text : R → List ℕ) (a : Pages R) (site : SiteContent) (found : Option FileId)
    (p : AppState) (due : Due F) (capture : R) (snapshot : Snapshot) → a.stage ≡ stage.Reply found
    → IsDueReply (reply_by g text site found a.capture) a.thread due → PagesRepresent g text a site p
    → text capture ≡ made_by g (files_of site) due.function due.argument.now snapshot
    → PagesRepresent g text (record a { capture = capture; thread = due.next }) site (prepared g (files_of site) p snapshot)
due_represents g text a site found p due capture snapshot e is_due s made =
    let is = replying g text a site p found e s in
    subst (λ q. PagesRepresent g text (begins_call a capture due.next) site q)
    (sym (prepared_by g (files_of site) p snapshot true (due_waits g text a site found p is.0 due is_due is.1)))
    (record {
      polls = s.polls;
      represented = subst (λ st. IsRepresentedIn g text (begins_call a capture due.next) site (with_capture p snapshot) st) (sym e) (
        is.0,
        record {
          wanted = is.1.wanted;
          there = is.1.there;
          file = is.1.file;
          fits = (begun g text site found a.capture capture is_due.pieces due.function due.argument.now due.next is_due.call).fits;
          kept = taken_by g text site found a.capture capture is_due.pieces due.function due.argument.now due.next p.snapshots snapshot is_due.call made;
          left = due_left g text a site found p is.0 due capture snapshot is_due is.1 made;
        },
      );
    })
