-- Frames decode to bytes.
-- [add: line-kind] A file as this one: a medium that is fed bytes decodes bytes.
use Rattle.ethernet_arp.proofs.Prelude.{All, ℕ, ◌<◌, ◌&&◌, List, [], ◌∷◌, ◌++◌, drop, eqb, length, ◌||◌, if◌then◌else◌, nat_lt, bytes_eq}
use Rattle.ethernet_arp.proofs.Prelude.{All-append, All-cons, All-drop, All-head, All-nil, All-tail, IsByte, word_at, choose, MediumInput}
use Rattle.ethernet_arp.proofs.Prelude.{Datagram, Own, BringsBytes, CarriesBytes, closed_by, ether_medium, is_taken, is_whole, open_from}
use Rattle.ethernet_arp.proofs.Prelude.{Host, arp_brings, broadcast, frame_brings, is_arp, is_arp_for, is_datagram, mac_at, payload_brings}
use Rattle.ethernet_arp.proofs.Prelude.{sender_of, Act, Asked, Pair, Replied}

more_bytes : (part : List ℕ) (b : ℕ) → All IsByte part → b < 256 → All IsByte (part ++ b ∷ [])
more_bytes part b h low = All-append IsByte part (b ∷ []) h (All-cons IsByte b [] low (All-nil IsByte))

open_bytes : (bytes part : List ℕ) → All IsByte bytes → All IsByte part → All IsByte (open_from part bytes)
open_bytes [] part a h = h
open_bytes (b ∷ bytes) part a h =
    open_bytes bytes (if is_whole (part ++ b ∷ []) then [] else part ++ b ∷ []) (All-tail IsByte b bytes a)
    (choose (λ l. All IsByte l) (is_whole (part ++ b ∷ [])) [] (part ++ b ∷ []) (λ e. All-nil IsByte) (λ e. more_bytes part b h (All-head IsByte b bytes a)))

abbrev pub AllOfBytes : List (MediumInput Act) → Type 0
AllOfBytes cs = All CarriesBytes cs

pub none : AllOfBytes []
none = All-nil CarriesBytes

own : (act : Act) → AllOfBytes (Own act ∷ [])
own act = All-cons CarriesBytes (Own act) [] tt none

arp_bytes : (operation : ℕ) (sender : Pair) → AllOfBytes (arp_brings operation sender)
arp_bytes operation sender =
    choose (λ (l : List (MediumInput Act)). AllOfBytes l) (eqb operation 1) _ _ (λ e. own (Asked sender))
    (λ e. choose (λ (l : List (MediumInput Act)). AllOfBytes l) (eqb operation 2) _ _ (λ f. own (Replied sender)) (λ f. none))

payload_bytes : (k : Host) (kind : ℕ) (payload : List ℕ) → All IsByte payload → AllOfBytes (payload_brings k kind payload)
payload_bytes k kind payload h =
    choose (λ (l : List (MediumInput Act)). AllOfBytes l) (is_datagram kind && nat_lt 0 (length payload)) _ _
    (λ e. All-cons CarriesBytes (Datagram payload) [] h none)
    (λ e. choose (λ (l : List (MediumInput Act)). AllOfBytes l) (is_arp kind && is_arp_for k.addr payload) _ _
    (λ f. arp_bytes (word_at payload 6) (sender_of payload)) (λ f. none))

pub frame_bytes : (k : Host) (frame : List ℕ) → All IsByte frame → AllOfBytes (frame_brings k frame)
frame_bytes k frame h =
    choose (λ (l : List (MediumInput Act)). AllOfBytes l) (bytes_eq (mac_at frame 0) k.mac || bytes_eq (mac_at frame 0) broadcast) _ _
    (λ e. payload_bytes k (word_at frame 12) (drop 14 frame) (All-drop IsByte 14 frame h)) (λ e. none)

closed_bytes : (k : Host) (part : List ℕ) → All IsByte part → AllOfBytes (closed_by k part)
closed_bytes k part h =
    choose (λ (l : List (MediumInput Act)). AllOfBytes l) (is_whole part && is_taken (drop 2 part)) _ _
    (λ e. frame_bytes k (drop 2 part) (All-drop IsByte 2 part h)) (λ e. none)

pub ether_brings_bytes : (k : Host) → BringsBytes (ether_medium k)
ether_brings_bytes k before b h low =
    let part : List ℕ = open_from [] before in
    closed_bytes k (part ++ b ∷ []) (more_bytes part b (open_bytes before [] h (All-nil IsByte)) low)
