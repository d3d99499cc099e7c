-- The request line after one more piece.
use Rattle.httpd.proofs.Prelude.{◌≡◌, ℕ, ◌+◌, ◌&&◌, true, false, not, List, ◌++◌, length, drop, codes, sym, ap, ◌∙◌, if◌then◌else◌, nat_eq}
use Rattle.httpd.proofs.Prelude.{list_any, starts_with, bytes_eq, Space, SpaceOrLine, Line, after, fresh, delivered, is_stop, part_taken}
use Rattle.httpd.proofs.Prelude.{word_of, after_method, has_ended, method_of, name_in, target_of, wanted, Name, Refused, after_more}
use Rattle.httpd.proofs.Prelude.{ended_more, word_more, HasName, ReceivesMethod, ReceivesTarget, decided_by_target, other_method}
use Rattle.httpd.proofs.Words.{EndsHere, ends_here, prefix_of, get_received, received_more, path_received, rest_of}

-- ---- the first word

method_holds : (old line : Line) (request piece : List ℕ) → ReceivesMethod old request → line ≡ after old piece → line ≡ delivered Space (request ++ piece)
method_holds old line request piece is e = e ∙ ap (λ l. after l piece) is.holds ∙ received_more Space request piece

pub method_goes_on : (old line : Line) (request piece : List ℕ) → ReceivesMethod old request → line ≡ after old piece → line.done ≡ false
    → ReceivesMethod line (request ++ piece)
method_goes_on old line request piece is e open_still =
    let holds : line ≡ delivered Space (request ++ piece) = method_holds old line request piece is e in
    record { goes_on = sym (ap (λ (l : Line). l.done) holds) ∙ open_still; holds = holds }

-- the method has ended, and whether it is `GET`
is_get_reported : (line : Line) (bytes : List ℕ) → line ≡ delivered Space bytes → (not line.query && bytes_eq line.name (codes "GET"))
    ≡ bytes_eq (word_of Space bytes) (codes "GET")
is_get_reported line bytes holds = ap (λ (l : Line). not l.query && bytes_eq l.name (codes "GET")) holds ∙ get_received (word_of Space bytes)

pub method_refused : (old line : Line) (request piece : List ℕ) → ReceivesMethod old request → line ≡ after old piece → line.done ≡ true
    → (not line.query && bytes_eq line.name (codes "GET")) ≡ false
    → wanted (request ++ piece) ≡ Refused
method_refused old line request piece is e done other =
    let holds : line ≡ delivered Space (request ++ piece) = method_holds old line request piece is e in
    other_method (request ++ piece) (sym (ap (λ (l : Line). l.done) holds) ∙ done) (sym (is_get_reported line (request ++ piece) holds) ∙ other)

-- the target begins after what was consumed
pub record Begins (request piece : List ℕ) (count : ℕ) : Type 0 where
  pub received : ReceivesTarget (fresh SpaceOrLine) (request ++ prefix_of piece)
  pub joined : (request ++ prefix_of piece) ++ drop count piece ≡ request ++ piece

taken_of : (line : Line) (piece : List ℕ) → line.done ≡ false → line.stops ≡ Space → list_any (is_stop Space) piece ≡ true
    → part_taken line piece ≡ length (word_of Space piece) + 1
taken_of line piece open_still stops stop = λ i. if open_still i then 0 else length (word_of (stops i) piece) + (if stop_at i then 1 else 0)
  where
    stop_at : list_any (is_stop line.stops) piece ≡ true
    stop_at = ap (λ s. list_any (is_stop s) piece) stops ∙ stop

pub target_begins : (old line : Line) (request piece : List ℕ) (count : ℕ) → ReceivesMethod old request → line ≡ after old piece
    → count ≡ part_taken old piece → line.done ≡ true
    → (not line.query && bytes_eq line.name (codes "GET")) ≡ true → Begins request piece count
target_begins old line request piece count is e size done get =
    let holds : line ≡ delivered Space (request ++ piece) = method_holds old line request piece is e in
    let ended : has_ended Space (request ++ piece) ≡ true = sym (ap (λ (l : Line). l.done) holds) ∙ done in
    let here : EndsHere request piece = ends_here request piece is.goes_on ended in
    let stop : list_any (is_stop Space) piece ≡ true = Rattle.httpd.proofs.Words.or_second (list_any (is_stop Space) request)
    (list_any (is_stop Space) piece) (sym (Rattle.std.proofs.lemmas.List.Folds.list_any-append (is_stop Space) request piece) ∙ ended) is.goes_on in
    let count_is : count ≡ length (word_of Space piece) + 1 =
    size ∙ taken_of old piece (ap (λ (l : Line). l.done) is.holds ∙ is.goes_on) (ap (λ (l : Line). l.stops) is.holds) stop in
    record {
      received = record {
        method_ended = here.ended;
        method = ap (λ w. bytes_eq w (codes "GET")) here.method ∙ sym (is_get_reported line (request ++ piece) holds) ∙ get;
        goes_on = ap (has_ended SpaceOrLine) here.nothing;
        holds = sym (ap (delivered SpaceOrLine) here.nothing);
      };
      joined = ap (λ n. (request ++ prefix_of piece) ++ drop n piece) count_is ∙ here.joined;
    }

-- ---- the second word

record Goes (old line : Line) (request piece : List ℕ) : Type 0 where
  method_ended : has_ended Space (request ++ piece) ≡ true
  method : bytes_eq (method_of (request ++ piece)) (codes "GET") ≡ true
  holds : line ≡ delivered SpaceOrLine (after_method (request ++ piece))

goes : (old line : Line) (request piece : List ℕ) → ReceivesTarget old request → line ≡ after old piece → Goes old line request piece
goes old line request piece is e = record {
  method_ended = ended_more Space request piece is.method_ended;
  method = ap (λ w. bytes_eq w (codes "GET")) (word_more Space request piece is.method_ended) ∙ is.method;
  holds = e ∙ ap (λ l. after l piece) is.holds ∙ received_more SpaceOrLine (after_method request) piece
      ∙ ap (delivered SpaceOrLine) (sym (after_more request piece is.method_ended));
}

pub target_goes_on : (old line : Line) (request piece : List ℕ) → ReceivesTarget old request → line ≡ after old piece → line.done ≡ false
    → ReceivesTarget line (request ++ piece)
target_goes_on old line request piece is e open_still =
    let g = goes old line request piece is e in
    record { method_ended = g.method_ended; method = g.method; goes_on = sym (ap (λ (l : Line). l.done) g.holds) ∙ open_still; holds = g.holds }

decided : (old line : Line) (request piece : List ℕ) → ReceivesTarget old request → line ≡ after old piece → line.done ≡ true
    → wanted (request ++ piece) ≡ (if starts_with nat_eq line.name (codes "/") then Name (name_in (target_of (request ++ piece))) else Refused)
decided old line request piece is e done =
    let g = goes old line request piece is e in
    decided_by_target (request ++ piece) g.method_ended g.method (sym (ap (λ (l : Line). l.done) g.holds) ∙ done)
    ∙ ap (λ b. if b then Name (name_in (target_of (request ++ piece))) else Refused)
    (sym (ap (λ (l : Line). starts_with nat_eq l.name (codes "/")) g.holds ∙ path_received (target_of (request ++ piece))))

pub target_named : (old line : Line) (request piece : List ℕ) → ReceivesTarget old request → line ≡ after old piece → line.done ≡ true
    → starts_with nat_eq line.name (codes "/") ≡ true → HasName line (request ++ piece)
target_named old line request piece is e done path = record {
  wanted = decided old line request piece is e done ∙ ap (λ b. if b then Name (name_in (target_of (request ++ piece))) else Refused) path;
  holds = (goes old line request piece is e).holds;
}

pub target_refused : (old line : Line) (request piece : List ℕ) → ReceivesTarget old request → line ≡ after old piece → line.done ≡ true
    → starts_with nat_eq line.name (codes "/") ≡ false → wanted (request ++ piece) ≡ Refused
target_refused old line request piece is e done path =
    decided old line request piece is e done ∙ ap (λ b. if b then Name (name_in (target_of (request ++ piece))) else Refused) path
