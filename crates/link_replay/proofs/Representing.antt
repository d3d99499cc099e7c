-- The lines of what the code holds are those of what it represents.
use Rattle.link_replay.proofs.Prelude.{◌≡◌, ℕ, Bool, ap, ◌∙◌, World, Sent, Who, SentRepresents, CodeSent, Kind, counts_line, datagram_line}
use Rattle.link_replay.proofs.Prelude.{kind_sent, line_of_datagram}

pub datagram_represents : (w : World) (number : ℕ) (sent : CodeSent) (e : Sent) (kind : Kind) → SentRepresents w sent e → kind ≡ kind_sent e.content
    → datagram_line number sent.tick sent.who kind sent.again ≡ line_of_datagram number e
datagram_represents w number sent e kind st same =
    ap (λ (t : ℕ). datagram_line number t sent.who kind sent.again) st.tick
    ∙ ap (λ (who : Who). datagram_line number e.tick who kind sent.again) st.who
    ∙ ap (λ (k : Kind). datagram_line number e.tick e.who k sent.again) same
    ∙ ap (λ (again : Bool). datagram_line number e.tick e.who (kind_sent e.content) again) st.again

pub counts_represent : (ticks t datagrams n : ℕ) → ticks ≡ t → datagrams ≡ n → counts_line ticks datagrams ≡ counts_line t n
counts_represent ticks t datagrams n e f = ap (λ (x : ℕ). counts_line x datagrams) e ∙ ap (λ (x : ℕ). counts_line t x) f
