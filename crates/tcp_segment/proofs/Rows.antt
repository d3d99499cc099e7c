-- Options, received segments and sent datagrams worked by hand: options in every order and cut, each fate at its first and last
-- length, and the datagrams of a reset, a SYN with ACK and a text.
use Rattle.tcp_segment.proofs.Prelude.{◌≡◌, ℕ, List, [], ◌∷◌, ◌++◌, map, Result, Ok, Err, Some, None, refl, TcpFate, Segment, codes}
use Rattle.tcp_segment.proofs.Prelude.{head_bytes, folded, mss_in, segment_in, datagram_bytes, Short, Offset, Checksum}

abbrev own : List ℕ
own = 10 ∷ 0 ∷ 0 ∷ 1 ∷ []

abbrev peer : List ℕ
peer = 10 ∷ 0 ∷ 0 ∷ 2 ∷ []

no_option : mss_in ([]) ≡ None
no_option = refl

alone : mss_in (2 ∷ 4 ∷ 5 ∷ 0xb4 ∷ []) ≡ Some 1460
alone = refl

after_fillers : mss_in (1 ∷ 1 ∷ 2 ∷ 4 ∷ 5 ∷ 0xb4 ∷ []) ≡ Some 1460
after_fillers = refl

after_another : mss_in (4 ∷ 2 ∷ 2 ∷ 4 ∷ 5 ∷ 0xb4 ∷ []) ≡ Some 1460
after_another = refl

before_another : mss_in (2 ∷ 4 ∷ 5 ∷ 0xb4 ∷ 4 ∷ 2 ∷ []) ≡ Some 1460
before_another = refl

after_a_long_one : mss_in (8 ∷ 0x0a ∷ 0 ∷ 0 ∷ 0 ∷ 1 ∷ 0 ∷ 0 ∷ 0 ∷ 0 ∷ 2 ∷ 4 ∷ 5 ∷ 0xb4 ∷ []) ≡ Some 1460
after_a_long_one = refl

first_of_two : mss_in (2 ∷ 4 ∷ 5 ∷ 0xb4 ∷ 2 ∷ 4 ∷ 0 ∷ 1 ∷ []) ≡ Some 1460
first_of_two = refl

after_the_end : mss_in (0 ∷ 2 ∷ 4 ∷ 5 ∷ 0xb4 ∷ []) ≡ None
after_the_end = refl

kind_alone : mss_in (2 ∷ []) ≡ None
kind_alone = refl

cut_in_length : mss_in (2 ∷ 4 ∷ []) ≡ None
cut_in_length = refl

cut_in_value : mss_in (2 ∷ 4 ∷ 5 ∷ []) ≡ None
cut_in_value = refl

length_missing : mss_in (1 ∷ 5 ∷ []) ≡ None
length_missing = refl

length_0 : mss_in (5 ∷ 0 ∷ 2 ∷ 4 ∷ 5 ∷ 0xb4 ∷ []) ≡ None
length_0 = refl

length_1 : mss_in (5 ∷ 1 ∷ 2 ∷ 4 ∷ 5 ∷ 0xb4 ∷ []) ≡ None
length_1 = refl

length_2 : mss_in (5 ∷ 2 ∷ 2 ∷ 4 ∷ 5 ∷ 0xb4 ∷ []) ≡ Some 1460
length_2 = refl

ends_at_the_end : mss_in (5 ∷ 5 ∷ 1 ∷ 1 ∷ 1 ∷ []) ≡ None
ends_at_the_end = refl

past_the_end : mss_in (5 ∷ 6 ∷ 2 ∷ 4 ∷ 5 ∷ []) ≡ None
past_the_end = refl

value_0 : mss_in (2 ∷ 4 ∷ 0 ∷ 0 ∷ []) ≡ None
value_0 = refl

value_0_ends : mss_in (2 ∷ 4 ∷ 0 ∷ 0 ∷ 2 ∷ 4 ∷ 5 ∷ 0xb4 ∷ []) ≡ None
value_0_ends = refl

kind_2_of_length_3 : mss_in (2 ∷ 3 ∷ 0 ∷ 2 ∷ 4 ∷ 5 ∷ 0xb4 ∷ []) ≡ Some 1460
kind_2_of_length_3 = refl

kind_2_of_length_6 : mss_in (2 ∷ 6 ∷ 0 ∷ 0 ∷ 0 ∷ 0 ∷ 2 ∷ 4 ∷ 5 ∷ 0xb4 ∷ []) ≡ Some 1460
kind_2_of_length_6 = refl

-- Payloads, and the segment that each is or its fate.
abbrev segment_rows : List (List ℕ × Result Segment TcpFate)
segment_rows = (
  4 ∷ 1 ∷ 0 ∷ 0x51 ∷ 0 ∷ 0 ∷ 3 ∷ 0xe8 ∷ 0 ∷ 0 ∷ 0 ∷ 0 ∷ 0x50 ∷ 2 ∷ 0x20 ∷ 0 ∷ 0x73 ∷ 0xa6 ∷ 0 ∷ 0 ∷ [],
  Ok (record {
    from = record { 0 = 1025 };
    to = record { 0 = 81 };
    seq = record { 0 = 1000 };
    ack = record { 0 = 0 };
    flags = 2;
    window = 8192;
    mss = None;
    text_at = 40;
    text_len = 0;
  }),
)  -- plain syn
    ∷ (
      4 ∷ 1 ∷ 0 ∷ 0x50 ∷ 0 ∷ 0 ∷ 3 ∷ 0xe8 ∷ 0 ∷ 0 ∷ 0 ∷ 0 ∷ 0xa0 ∷ 2 ∷ 0xfa ∷ 0xf0 ∷ 0x32 ∷ 0xc1 ∷ 0 ∷ 0 ∷ 2 ∷ 4 ∷ 3 ∷ 0xc6 ∷ 4 ∷ 2 ∷ 8
          ∷ 0x0a ∷ 0 ∷ 0 ∷ 0 ∷ 1 ∷ 0 ∷ 0 ∷ 0 ∷ 0 ∷ 1 ∷ 3 ∷ 3 ∷ 7 ∷ [],
      Ok (record {
        from = record { 0 = 1025 };
        to = record { 0 = 80 };
        seq = record { 0 = 1000 };
        ack = record { 0 = 0 };
        flags = 2;
        window = 64240;
        mss = Some 966;
        text_at = 60;
        text_len = 0;
      }),
    )  -- usual syn
    ∷ (
      4 ∷ 1 ∷ 0 ∷ 0x50 ∷ 0 ∷ 0 ∷ 3 ∷ 0xe9 ∷ 0 ∷ 0 ∷ 0 ∷ 1 ∷ 0x50 ∷ 0x18 ∷ 0x20 ∷ 0 ∷ 0xfb ∷ 0x8d ∷ 0 ∷ 0 ∷ 0x78 ∷ [],
      Ok (record {
        from = record { 0 = 1025 };
        to = record { 0 = 80 };
        seq = record { 0 = 1001 };
        ack = record { 0 = 1 };
        flags = 24;
        window = 8192;
        mss = None;
        text_at = 40;
        text_len = 1;
      }),
    )  -- odd text
    ∷ (
      4 ∷ 1 ∷ 0 ∷ 0x51 ∷ 0 ∷ 0 ∷ 3 ∷ 0xe8 ∷ 0 ∷ 0 ∷ 0 ∷ 0 ∷ 0x50 ∷ 0xe2 ∷ 0x20 ∷ 0 ∷ 0x72 ∷ 0xc6 ∷ 0 ∷ 0 ∷ [],
      Ok (record {
        from = record { 0 = 1025 };
        to = record { 0 = 81 };
        seq = record { 0 = 1000 };
        ack = record { 0 = 0 };
        flags = 34;
        window = 8192;
        mss = None;
        text_at = 40;
        text_len = 0;
      }),
    )  -- six flags alone
    ∷ ([], Err Short)  -- short empty
    ∷ (4 ∷ 1 ∷ 0 ∷ 0x51 ∷ 0 ∷ 0 ∷ 3 ∷ 0xe8 ∷ 0 ∷ 0 ∷ 0 ∷ 0 ∷ 0x50 ∷ 2 ∷ 0x20 ∷ 0 ∷ 0x73 ∷ 0xa6 ∷ 0 ∷ [], Err Short)  -- short at 19
    ∷ (4 ∷ 1 ∷ 0 ∷ 0x51 ∷ 0 ∷ 0 ∷ 3 ∷ 0xe8 ∷ 0 ∷ 0 ∷ 0 ∷ 0 ∷ 0x40 ∷ 2 ∷ 0x20 ∷ 0 ∷ 0x83 ∷ 0xa6 ∷ 0 ∷ 0 ∷ [], Err Offset)  -- offset 4
    ∷ (4 ∷ 1 ∷ 0 ∷ 0x51 ∷ 0 ∷ 0 ∷ 3 ∷ 0xe8 ∷ 0 ∷ 0 ∷ 0 ∷ 0 ∷ 0x60 ∷ 2 ∷ 0x20 ∷ 0 ∷ 0x63 ∷ 0xa6 ∷ 0 ∷ 0 ∷ [], Err Offset)  -- offset 6 of 20
    ∷ (4 ∷ 1 ∷ 0 ∷ 0x51 ∷ 0 ∷ 0 ∷ 3 ∷ 0xe8 ∷ 0 ∷ 0 ∷ 0 ∷ 0 ∷ 0x60 ∷ 2 ∷ 0x20 ∷ 0 ∷ 0x63 ∷ 0xa3 ∷ 0 ∷ 0 ∷ 0 ∷ 0 ∷ 0 ∷ [], Err Offset)  -- offset 6 of 23
    ∷ (
      4 ∷ 1 ∷ 0 ∷ 0x51 ∷ 0 ∷ 0 ∷ 3 ∷ 0xe8 ∷ 0 ∷ 0 ∷ 0 ∷ 0 ∷ 0x60 ∷ 2 ∷ 0x20 ∷ 0 ∷ 0x63 ∷ 0xa2 ∷ 0 ∷ 0 ∷ 0 ∷ 0 ∷ 0 ∷ 0 ∷ [],
      Ok (record {
        from = record { 0 = 1025 };
        to = record { 0 = 81 };
        seq = record { 0 = 1000 };
        ack = record { 0 = 0 };
        flags = 2;
        window = 8192;
        mss = None;
        text_at = 44;
        text_len = 0;
      }),
    )  -- offset 6 of 24
    ∷ (4 ∷ 1 ∷ 0 ∷ 0x51 ∷ 0 ∷ 0 ∷ 3 ∷ 0xe8 ∷ 0 ∷ 0 ∷ 0 ∷ 0 ∷ 0x50 ∷ 2 ∷ 0x20 ∷ 0 ∷ 0x73 ∷ 0xa6 ∷ 0 ∷ 1 ∷ [], Err Checksum)  -- sum off by one
    ∷ (4 ∷ 1 ∷ 0 ∷ 0x51 ∷ 0 ∷ 0 ∷ 3 ∷ 0xe8 ∷ 0 ∷ 0 ∷ 0 ∷ 0 ∷ 0x40 ∷ 2 ∷ 0x20 ∷ 0 ∷ 0x73 ∷ 0xa6 ∷ 0 ∷ 0 ∷ [], Err Offset)  -- offset before sum
    ∷ []

segments : map (λ row. segment_in peer own row.0) segment_rows ≡ map (λ row. row.1) segment_rows
unfolding segment_in folded
segments = refl

reset : datagram_bytes (record {
  source = own;
  target = peer;
  from = 81;
  to = 1025;
  id = 1;
  segment = record { seq = 0; ack = 1001; flags = 20; window = 0; mss = None; text = [] };
}) ≡ 0x45 ∷ 0 ∷ 0 ∷ 0x28 ∷ 0 ∷ 1 ∷ 0 ∷ 0 ∷ 0x40 ∷ 6 ∷ 0x66 ∷ 0xcd ∷ 0x0a ∷ 0 ∷ 0 ∷ 1 ∷ 0x0a ∷ 0 ∷ 0 ∷ 2 ∷ 0 ∷ 0x51 ∷ 4 ∷ 1 ∷ 0 ∷ 0 ∷ 0 ∷ 0
    ∷ 0 ∷ 0 ∷ 3 ∷ 0xe9 ∷ 0x50 ∷ 0x14 ∷ 0 ∷ 0 ∷ 0x93 ∷ 0x93 ∷ 0 ∷ 0 ∷ []
unfolding datagram_bytes head_bytes folded
reset = refl

syn_ack : datagram_bytes (record {
  source = own;
  target = peer;
  from = 80;
  to = 1025;
  id = 1;
  segment = record { seq = 0; ack = 1001; flags = 18; window = 1460; mss = Some 1460; text = [] };
}) ≡ 0x45 ∷ 0 ∷ 0 ∷ 0x2c ∷ 0 ∷ 1 ∷ 0 ∷ 0 ∷ 0x40 ∷ 6 ∷ 0x66 ∷ 0xc9 ∷ 0x0a ∷ 0 ∷ 0 ∷ 1 ∷ 0x0a ∷ 0 ∷ 0 ∷ 2 ∷ 0 ∷ 0x50 ∷ 4 ∷ 1 ∷ 0 ∷ 0 ∷ 0 ∷ 0
    ∷ 0 ∷ 0 ∷ 3 ∷ 0xe9 ∷ 0x60 ∷ 0x12 ∷ 5 ∷ 0xb4 ∷ 0x76 ∷ 0x26 ∷ 0 ∷ 0 ∷ 2 ∷ 4 ∷ 5 ∷ 0xb4 ∷ []
unfolding datagram_bytes head_bytes folded
syn_ack = refl

hello : datagram_bytes (record {
  source = own;
  target = peer;
  from = 80;
  to = 1025;
  id = 2;
  segment = record { seq = 1; ack = 1002; flags = 24; window = 1460; mss = None; text = codes "hello" ++ 10 ∷ [] };
}) ≡ 0x45 ∷ 0 ∷ 0 ∷ 0x2e ∷ 0 ∷ 2 ∷ 0 ∷ 0 ∷ 0x40 ∷ 6 ∷ 0x66 ∷ 0xc6 ∷ 0x0a ∷ 0 ∷ 0 ∷ 1 ∷ 0x0a ∷ 0 ∷ 0 ∷ 2 ∷ 0 ∷ 0x50 ∷ 4 ∷ 1 ∷ 0 ∷ 0 ∷ 0 ∷ 1
    ∷ 0 ∷ 0 ∷ 3 ∷ 0xea ∷ 0x50 ∷ 0x18 ∷ 5 ∷ 0xb4 ∷ 0x49 ∷ 0xf8 ∷ 0 ∷ 0 ∷ 0x68 ∷ 0x65 ∷ 0x6c ∷ 0x6c ∷ 0x6f ∷ 0x0a ∷ []
unfolding datagram_bytes head_bytes folded
hello = refl
