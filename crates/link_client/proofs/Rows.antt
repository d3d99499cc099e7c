-- Datagrams worked by hand: a client's SYN, and the server's answer to it, which it accepts and another client does not.
use Rattle.link_client.proofs.Prelude.{◌≡◌, ℕ, List, [], ◌∷◌, Some, None, refl, head_bytes, head_or_fate, folded, segment_in}
use Rattle.link_client.proofs.Prelude.{datagram_bytes, client_datagram, client_receives, idle, syn_of, Setup}

abbrev setup : Setup
setup = record {
  addr = record { 0 = 10 ∷ 0 ∷ 0 ∷ 2 ∷ [] };
  port = record { 0 = 1025 };
  mss = 0;
  seg = 536;
  iss = record { 0 = 1000 };
  server = record { 0 = 10 ∷ 0 ∷ 0 ∷ 1 ∷ [] };
  server_port = record { 0 = 80 };
}

syn_row : datagram_bytes (client_datagram setup (syn_of (idle setup []))) ≡
    0x45 ∷ 0 ∷ 0 ∷ 0x28 ∷ 0 ∷ 0 ∷ 0 ∷ 0 ∷ 0x40 ∷ 6 ∷ 0x66 ∷ 0xce ∷ 10 ∷ 0 ∷ 0 ∷ 2 ∷ 10 ∷ 0 ∷ 0 ∷ 1
    ∷ 4 ∷ 1 ∷ 0 ∷ 0x50 ∷ 0 ∷ 0 ∷ 3 ∷ 0xe8 ∷ 0 ∷ 0 ∷ 0 ∷ 0 ∷ 0x50 ∷ 2 ∷ 0xff ∷ 0xff ∷ 0x93 ∷ 0xa7 ∷ 0 ∷ 0 ∷ []
unfolding datagram_bytes head_bytes folded
syn_row = refl

abbrev syn_ack : List ℕ
syn_ack =
    0x45 ∷ 0 ∷ 0 ∷ 0x2c ∷ 0 ∷ 1 ∷ 0 ∷ 0 ∷ 0x40 ∷ 6 ∷ 0x66 ∷ 0xc9 ∷ 10 ∷ 0 ∷ 0 ∷ 1 ∷ 10 ∷ 0 ∷ 0 ∷ 2
    ∷ 0 ∷ 0x50 ∷ 4 ∷ 1 ∷ 0 ∷ 0 ∷ 0 ∷ 0 ∷ 0 ∷ 0 ∷ 3 ∷ 0xe9 ∷ 0x60 ∷ 0x12 ∷ 5 ∷ 0xb4 ∷ 0x76 ∷ 0x26 ∷ 0 ∷ 0 ∷ 2 ∷ 4 ∷ 5 ∷ 0xb4 ∷ []

syn_ack_row : client_receives setup syn_ack ≡ Some (record { seq = 0; ack = 1001; flags = 18; window = 1460; mss = Some 1460; text = [] })
unfolding head_or_fate segment_in folded
syn_ack_row = refl

other_port_row : client_receives (record setup { port = record { 0 = 1026 } }) syn_ack ≡ None
unfolding head_or_fate segment_in folded
other_port_row = refl

other_server_row : client_receives (record setup { server = record { 0 = 10 ∷ 0 ∷ 0 ∷ 9 ∷ [] } }) syn_ack ≡ None
unfolding head_or_fate segment_in folded
other_server_row = refl
