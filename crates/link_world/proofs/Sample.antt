-- A small application with a page of pieces, some of them made from a capture, for the computed rows.
use Rattle.link_world.proofs.Prelude.{ℕ, ◌+◌, ◌-◌, ◌==◌, ◌&&◌, min, Bool, true, false, not, List, [], ◌∷◌, ◌++◌, length, nat_lt}
use Rattle.link_world.proofs.Prelude.{if◌then◌else◌, AppState, Snapshot, AppSpec, Want, Nothing, Send, Close, Abort}

pub data Piece : Type 0 where
  Plain : (text : List ℕ) → Piece
  Made : (text : Snapshot → List ℕ) → Piece

-- the pieces joined, up to the first that needs a capture which is not there
abbrev pub joined : List Piece → List Snapshot → List ℕ
joined [] k = []
joined (Plain text ∷ more) k = text ++ joined more k
joined (Made text ∷ more) [] = []
joined (Made text ∷ more) (snapshot ∷ k) = text snapshot ++ joined more k

abbrev pub all_there : List Piece → List Snapshot → Bool
all_there [] k = true
all_there (Plain text ∷ more) k = all_there more k
all_there (Made text ∷ more) [] = false
all_there (Made text ∷ more) (snapshot ∷ k) = all_there more k

-- a request is decided at its sixth byte
abbrev pub is_decided : List ℕ → Bool
is_decided delivered = nat_lt 5 (length delivered)

abbrev pub page : List Piece → AppState → List ℕ
page pieces p = if is_decided p.input then joined pieces p.snapshots else []

abbrev pub is_whole : List Piece → AppState → Bool
is_whole pieces p = is_decided p.input && all_there pieces p.snapshots

abbrev pub wants : AppState → Bool → ℕ → Want
wants p whole output =
    if p.polls == 20 then Abort
    else if whole && (p.acked == output) then Close
    else if nat_lt p.acked output then Send (min 1460 (output - p.acked))
    else Nothing

abbrev pub needs_capture : List Piece → AppState → Bool
needs_capture pieces p = is_decided p.input && (not (all_there pieces p.snapshots) && (p.acked == length (joined pieces p.snapshots)))

abbrev pub sample : List Piece → AppSpec
sample pieces = record {
  output = λ p. page pieces p;
  connected = λ numbers port. record { part = record { port = port; input = []; snapshots = []; acked = 0; polls = 0; own = 0 }; numbers = numbers };
  newdata = λ numbers p piece. record { part = record p { input = p.input ++ piece; polls = 0 }; numbers = numbers };
  prepare = λ numbers p now. (if needs_capture pieces p then record p { snapshots = p.snapshots ++ record { numbers = numbers; now = now } ∷ [] } else p);
  want = λ numbers p. wants p (is_whole pieces p) (length (page pieces p));
  acked = λ numbers p n. record { part = record p { acked = p.acked + n; polls = 0 }; numbers = numbers };
  polled = λ numbers p. record { part = record p { polls = p.polls + 1 }; numbers = numbers };
  ended = λ numbers p how. numbers;
}
