-- The pages of a device answer a request in a number of segments that its pieces give.
use Rattle.std.specs.Int.{div_ceil}
use Rattle.std.specs.Prelude.{◌≡◌, ◌≢◌, ◌<◌, ◌≤◌, ◌∷◌, ◌&&◌, [], Bool, false, length, List, sum_by, true, ℕ}
use Rattle.app_events.specs.Prelude.{AppState}
use Rattle.generators.specs.Prelude.{ScriptFunctions}
use Rattle.site_image.specs.Prelude.{File}
use Rattle.device_values.specs.Prelude.{words}
use Rattle.device_values.specs.declared.word.Word.{Word}
use Rattle.device_values.specs.declared.word.Word.TheVariants as word
use Rattle.uip_node.specs.Prelude.{AnswersPolled}
use Rattle.web_pages.specs.Prelude.{reply_pieces_by, ScriptPiece, Plain, Made, Wanted, wanted, Name, NotYet}
use Rattle.tcp_machine.specs.Prelude.{Sockets}
use Rattle.node_laws.specs.Prelude.{ArrivesIn, Asker, AsksOverLoss, Progresses, TraceEntry, exchanges_with}
use Rattle.uip_device.specs.WebDevices.{value_pages, value_spec}

-- the pieces of the reply to a request
abbrev pub answer_pieces : {F : Type 0} → ScriptFunctions F → List File → Wanted → List (ScriptPiece F)
answer_pieces g files (Name name) = reply_pieces_by g.function_table.named files name
answer_pieces g files _ = []

-- the greatest length of a piece
abbrev pub most_by : {F : Type 0} → ScriptFunctions F → ScriptPiece F → ℕ
most_by g (Plain text) = length text
most_by g (Made function argument) = g.function_table.length_at_most function

-- a number of segments of at most mss bytes that suffices for the pieces, if each segment stays in one piece
abbrev pub texts_by : {F : Type 0} → ScriptFunctions F → ℕ → List (ScriptPiece F) → ℕ
texts_by g mss pieces = sum_by (λ piece. div_ceil (most_by g piece) mss) pieces

-- The next of these pieces that is not empty is text, or none is left.
abbrev pub text_is_next : {F : Type 0} → List (ScriptPiece F) → Bool
text_is_next [] = true
text_is_next (Plain [] ∷ more) = text_is_next more
text_is_next (Plain (byte ∷ text) ∷ more) = true
text_is_next (Made function argument ∷ more) = false

-- Between two calls of values there is text, so a page continues also after a value that is empty.
abbrev pub text_follows_values : List (ScriptPiece Word) → Bool
text_follows_values [] = true
text_follows_values (Plain text ∷ more) = text_follows_values more
text_follows_values (Made (word.Uip function) argument ∷ more) = text_follows_values more
text_follows_values (Made (word.Value spelling) argument ∷ more) = text_is_next more && text_follows_values more

-- Only the functions of uIP are called.
abbrev pub calls_no_value : List (ScriptPiece Word) → Bool
calls_no_value [] = true
calls_no_value (Plain text ∷ more) = calls_no_value more
calls_no_value (Made (word.Uip function) argument ∷ more) = calls_no_value more
calls_no_value (Made (word.Value spelling) argument ∷ more) = false

-- Then it holds as well.
abbrev pub PagesWithoutValues : Type 0
PagesWithoutValues = (pieces : List (ScriptPiece Word)) → calls_no_value pieces ≡ true → text_follows_values pieces ≡ true

-- The reply to a decided request needs at most this many segments, if text follows each value of its page, however the request is split.
-- While it is received the application is polled at most nineteen times.
abbrev pub ValuePagesAnswer : Type 0
ValuePagesAnswer =
    (files : List File) (request : List ℕ) → wanted request ≢ NotYet
    → text_follows_values (answer_pieces words files (wanted request)) ≡ true → (mss : ℕ) → 0 < mss → mss ≤ 1460
    → (fine : ℕ → AppState → Bool) × ((left : AppState → ℕ)
    × AnswersPolled (value_spec files) request mss fine left (texts_by words mss (answer_pieces words files (wanted request))) 19)

-- In a trace of a device that serves a site, of calls or of frames (`arrives` of `CallsConform` and of `FramesConform`), the page of a peer
-- arrives over a lossy link: from the whole request on it has arrived or is on its way (`Progresses`). The request is decided, and is
-- received whole before any slot is called twenty times. Text follows each value of the page.
abbrev pub WebCallsArrive : Type 0
WebCallsArrive =
    (files : List File) (trace : List TraceEntry) → ArrivesIn (value_spec files) (value_pages files) trace → (a : Asker) (p : Sockets)
    → wanted a.request ≢ NotYet → text_follows_values (answer_pieces words files (wanted a.request)) ≡ true → (incarnation : List TraceEntry)
    → AsksOverLoss a p 19 trace incarnation
    → Progresses (value_pages files) a (texts_by words a.mss (answer_pieces words files (wanted a.request))) (exchanges_with p incarnation)
