-- Worked rows, computed from the definitions.
use Rattle.trace.proofs.Prelude.{◌≡◌, ℕ, List, [], ◌∷◌, ◌++◌, length, map, refl, arith, None, digits, Item, Byte, Quiet, head_or_fate}
use Rattle.trace.proofs.Prelude.{segment_in, slip_text, folded, HoldsJust, order_of, capture_file, capture_header, dump_text, Little}
use Rattle.std.specs.Prelude.{codes}

-- an echo request of 10.0.0.2, its reply, and a SYN to a port where nobody listens
request : List ℕ
request = 0x45 ∷ 0 ∷ 0 ∷ 0x1C ∷ 0 ∷ 1 ∷ 0 ∷ 0 ∷ 0x40 ∷ 1 ∷ 0x66 ∷ 0xDE ∷ 0x0A ∷ 0 ∷ 0 ∷ 2 ∷ 0x0A ∷ 0 ∷ 0 ∷ 1 ∷ 8 ∷ 0 ∷ 0xF7 ∷ 0xFD ∷ 0 ∷ 1 ∷ 0 ∷ 1 ∷ []

reply : List ℕ
reply = 0x45 ∷ 0 ∷ 0 ∷ 0x1C ∷ 0 ∷ 1 ∷ 0 ∷ 0 ∷ 0x40 ∷ 1 ∷ 0x66 ∷ 0xDE ∷ 0x0A ∷ 0 ∷ 0 ∷ 1 ∷ 0x0A ∷ 0 ∷ 0 ∷ 2 ∷ 0 ∷ 0 ∷ 0xFF ∷ 0xFD ∷ 0 ∷ 1 ∷ 0 ∷ 1 ∷ []

syn : List ℕ
syn = 0x45 ∷ 0 ∷ 0 ∷ 0x28 ∷ 0 ∷ 1 ∷ 0 ∷ 0 ∷ 0x40 ∷ 6 ∷ 0x66 ∷ 0xCD ∷ 0x0A ∷ 0 ∷ 0 ∷ 2 ∷ 0x0A ∷ 0 ∷ 0 ∷ 1 ∷ 4 ∷ 1 ∷ 0 ∷ 0x51 ∷ 0 ∷ 0 ∷ 3 ∷ 0xE8
    ∷ 0 ∷ 0 ∷ 0 ∷ 0 ∷ 0x50 ∷ 2 ∷ 0x20 ∷ 0 ∷ 0x73 ∷ 0xA6 ∷ 0 ∷ 0 ∷ []

line : List ℕ → List Item
line datagram = map Byte (slip_text datagram)

-- a line for each frame
three_lines : dump_text (line request ++ line reply ++ line syn)
    ≡ codes "1 28 icmp 10.0.0.2 10.0.0.1 8 0\n2 28 icmp 10.0.0.1 10.0.0.2 0 0\n3 40 tcp 10.0.0.2:1025 10.0.0.1:81 S 1000 0 0\n"
unfolding digits head_or_fate segment_in folded request reply syn line
three_lines = refl

-- a frame that fails a check has its line too
damaged_frames : dump_text (line (1 ∷ []) ++ line (0x45 ∷ 0 ∷ 0 ∷ 20 ∷ 0 ∷ 1 ∷ 0 ∷ 0 ∷ 0x40 ∷ 17 ∷ 0x66 ∷ 0xD6 ∷ 10 ∷ 0 ∷ 0 ∷ 2 ∷ 10 ∷ 0 ∷ 0 ∷ 1 ∷ []))
    ≡ codes "1 1 ip short\n2 20 ip protocol\n"
unfolding digits head_or_fate folded line
damaged_frames = refl

-- one record of 68 bytes in all
one_record : capture_file (line request) ≡ capture_header ++ 0 ∷ 0 ∷ 0 ∷ 0 ∷ 0 ∷ 0 ∷ 0 ∷ 0 ∷ 0 ∷ 0 ∷ 0 ∷ 28 ∷ 0 ∷ 0 ∷ 0 ∷ 28 ∷ request
unfolding request line
one_record = refl

size_of_one : length (capture_file (line request)) ≡ 68
unfolding request line
size_of_one = refl

-- three silences are a second and a half
after_silences : capture_file (Quiet ∷ Quiet ∷ Byte 192 ∷ Byte 7 ∷ Quiet ∷ Byte 192 ∷ [])
    ≡ capture_header ++ 0 ∷ 0 ∷ 0 ∷ 1 ∷ 0 ∷ 7 ∷ 161 ∷ 32 ∷ 0 ∷ 0 ∷ 0 ∷ 1 ∷ 0 ∷ 0 ∷ 0 ∷ 1 ∷ 7 ∷ []
after_silences = refl

-- a header in the other byte order, with any snap length and any eight bytes before it
little_header : List ℕ
little_header = 0xD4 ∷ 0xC3 ∷ 0xB2 ∷ 0xA1 ∷ 2 ∷ 0 ∷ 4 ∷ 0 ∷ 1 ∷ 2 ∷ 3 ∷ 4 ∷ 5 ∷ 6 ∷ 7 ∷ 8 ∷ 0 ∷ 0 ∷ 4 ∷ 0 ∷ 101 ∷ 0 ∷ 0 ∷ 0 ∷ []

little_read : HoldsJust ((7 ∷ 8 ∷ []) ∷ []) (little_header ++ 9 ∷ 9 ∷ 9 ∷ 9 ∷ 9 ∷ 9 ∷ 9 ∷ 9 ∷ 2 ∷ 0 ∷ 0 ∷ 0 ∷ 9 ∷ 9 ∷ 9 ∷ 9 ∷ 7 ∷ 8 ∷ [])
unfolding little_header
little_read = record {
  records = record { head = 9 ∷ 9 ∷ 9 ∷ 9 ∷ 9 ∷ 9 ∷ 9 ∷ 9 ∷ 2 ∷ 0 ∷ 0 ∷ 0 ∷ 9 ∷ 9 ∷ 9 ∷ 9 ∷ []; body = 7 ∷ 8 ∷ [] } ∷ [];
  read = (
    Little,
    record {
      header = little_header;
      size = refl;
      good = refl;
      sound = (record { head = refl; body = refl; fits = omega arith }, tt);
      spelled = refl;
    },
  );
  bodies = refl;
}

-- times in nanoseconds are not read
nanoseconds : order_of (0xA1 ∷ 0xB2 ∷ 0x3C ∷ 0x4D ∷ 0 ∷ 2 ∷ 0 ∷ 4 ∷ 0 ∷ 0 ∷ 0 ∷ 0 ∷ 0 ∷ 0 ∷ 0 ∷ 0 ∷ 0 ∷ 0 ∷ 255 ∷ 255 ∷ 0 ∷ 0 ∷ 0 ∷ 101 ∷ []) ≡ None
nanoseconds = refl

-- nor is Ethernet
ethernet : order_of (0xA1 ∷ 0xB2 ∷ 0xC3 ∷ 0xD4 ∷ 0 ∷ 2 ∷ 0 ∷ 4 ∷ 0 ∷ 0 ∷ 0 ∷ 0 ∷ 0 ∷ 0 ∷ 0 ∷ 0 ∷ 0 ∷ 0 ∷ 255 ∷ 255 ∷ 0 ∷ 0 ∷ 0 ∷ 1 ∷ []) ≡ None
ethernet = refl
