-- The checks on a header worked by hand, an echo request of 28 bytes from 10.0.0.2 to 10.0.0.1, and on changes of it: each
-- fate at its first and its last length, and the earlier of two fates.
-- [add: fate] IP: a row for the fate, at its first and its last length.
use Rattle.uip_ipv4.proofs.Prelude.{◌≡◌, ℕ, List, [], ◌∷◌, map, Result, Ok, Err, refl, IpFate, IpHead, folded, Short, Version, Length}
use Rattle.uip_ipv4.proofs.Prelude.{Fragment, Checksum, NotOurs, Protocol, Icmp, Tcp, head_or_fate, head_bytes}

abbrev own : List ℕ
own = 10 ∷ 0 ∷ 0 ∷ 1 ∷ []

abbrev peer : List ℕ
peer = 10 ∷ 0 ∷ 0 ∷ 2 ∷ []

-- Datagrams, with the header of each or its fate.
abbrev head_rows : List (List ℕ × Result IpHead IpFate)
head_rows =
    ([], Err Short)  -- short empty
    ∷ (
      0x45 ∷ 0 ∷ 0 ∷ 0x1c ∷ 0 ∷ 1 ∷ 0 ∷ 0 ∷ 0x40 ∷ 1 ∷ 0x66 ∷ 0xde ∷ 0x0a ∷ 0 ∷ 0 ∷ 2 ∷ 0x0a ∷ 0 ∷ 0 ∷ 1 ∷ 8 ∷ 0 ∷ 0xf7 ∷ 0xfd ∷ 0 ∷ 1 ∷ 0
          ∷ 1 ∷ [],
      Ok (record { total = 28; proto = Icmp; source = record { 0 = peer }; target = record { 0 = own } }),
    )  -- taken
    ∷ (
      0x45 ∷ 0 ∷ 0 ∷ 0x1c ∷ 0 ∷ 1 ∷ 0 ∷ 0 ∷ 0x40 ∷ 1 ∷ 0x66 ∷ 0xde ∷ 0x0a ∷ 0 ∷ 0 ∷ 2 ∷ 0x0a ∷ 0 ∷ 0 ∷ 1 ∷ 8 ∷ 0 ∷ 0xf7 ∷ 0xfd ∷ 0 ∷ 1 ∷ 0
          ∷ 1 ∷ 0x99 ∷ 0x99 ∷ [],
      Ok (record { total = 28; proto = Icmp; source = record { 0 = peer }; target = record { 0 = own } }),
    )  -- taken with more bytes
    ∷ (0x45 ∷ 0 ∷ 0 ∷ 0x1c ∷ 0 ∷ 1 ∷ 0 ∷ 0 ∷ 0x40 ∷ 1 ∷ 0x66 ∷ 0xde ∷ 0x0a ∷ 0 ∷ 0 ∷ 2 ∷ 0x0a ∷ 0 ∷ 0 ∷ [], Err Short)  -- short at 19
    ∷ (
      0x65 ∷ 0 ∷ 0 ∷ 0x1c ∷ 0 ∷ 1 ∷ 0 ∷ 0 ∷ 0x40 ∷ 1 ∷ 0x46 ∷ 0xde ∷ 0x0a ∷ 0 ∷ 0 ∷ 2 ∷ 0x0a ∷ 0 ∷ 0 ∷ 1 ∷ 8 ∷ 0 ∷ 0xf7 ∷ 0xfd ∷ 0 ∷ 1 ∷ 0
          ∷ 1 ∷ [],
      Err Version,
    )  -- version 6
    ∷ (
      0x46 ∷ 0 ∷ 0 ∷ 0x1c ∷ 0 ∷ 1 ∷ 0 ∷ 0 ∷ 0x40 ∷ 1 ∷ 0x65 ∷ 0xde ∷ 0x0a ∷ 0 ∷ 0 ∷ 2 ∷ 0x0a ∷ 0 ∷ 0 ∷ 1 ∷ 8 ∷ 0 ∷ 0xf7 ∷ 0xfd ∷ 0 ∷ 1 ∷ 0
          ∷ 1 ∷ [],
      Err Version,
    )  -- options
    ∷ (
      0x45 ∷ 0 ∷ 0 ∷ 0x13 ∷ 0 ∷ 1 ∷ 0 ∷ 0 ∷ 0x40 ∷ 1 ∷ 0x66 ∷ 0xe7 ∷ 0x0a ∷ 0 ∷ 0 ∷ 2 ∷ 0x0a ∷ 0 ∷ 0 ∷ 1 ∷ 8 ∷ 0 ∷ 0xf7 ∷ 0xfd ∷ 0 ∷ 1 ∷ 0
          ∷ 1 ∷ [],
      Err Length,
    )  -- total 19
    ∷ (
      0x45 ∷ 0 ∷ 0 ∷ 0x14 ∷ 0 ∷ 1 ∷ 0 ∷ 0 ∷ 0x40 ∷ 1 ∷ 0x66 ∷ 0xe6 ∷ 0x0a ∷ 0 ∷ 0 ∷ 2 ∷ 0x0a ∷ 0 ∷ 0 ∷ 1 ∷ [],
      Ok (record { total = 20; proto = Icmp; source = record { 0 = peer }; target = record { 0 = own } }),
    )  -- total 20 of 20
    ∷ (
      0x45 ∷ 0 ∷ 0 ∷ 0x1c ∷ 0 ∷ 1 ∷ 0 ∷ 0 ∷ 0x40 ∷ 1 ∷ 0x66 ∷ 0xde ∷ 0x0a ∷ 0 ∷ 0 ∷ 2 ∷ 0x0a ∷ 0 ∷ 0 ∷ 1 ∷ 8 ∷ 0 ∷ 0xf7 ∷ 0xfd ∷ 0 ∷ 1 ∷ 0
          ∷ [],
      Err Length,
    )  -- total 28 of 27
    ∷ (
      0x45 ∷ 0 ∷ 0 ∷ 0x1c ∷ 0 ∷ 1 ∷ 0x20 ∷ 0 ∷ 0x40 ∷ 1 ∷ 0x46 ∷ 0xde ∷ 0x0a ∷ 0 ∷ 0 ∷ 2 ∷ 0x0a ∷ 0 ∷ 0 ∷ 1 ∷ 8 ∷ 0 ∷ 0xf7 ∷ 0xfd ∷ 0 ∷ 1
          ∷ 0 ∷ 1 ∷ [],
      Err Fragment,
    )  -- more fragments
    ∷ (
      0x45 ∷ 0 ∷ 0 ∷ 0x1c ∷ 0 ∷ 1 ∷ 0 ∷ 1 ∷ 0x40 ∷ 1 ∷ 0x66 ∷ 0xdd ∷ 0x0a ∷ 0 ∷ 0 ∷ 2 ∷ 0x0a ∷ 0 ∷ 0 ∷ 1 ∷ 8 ∷ 0 ∷ 0xf7 ∷ 0xfd ∷ 0 ∷ 1 ∷ 0
          ∷ 1 ∷ [],
      Err Fragment,
    )  -- last fragment
    ∷ (
      0x45 ∷ 0 ∷ 0 ∷ 0x1c ∷ 0 ∷ 1 ∷ 0x40 ∷ 0 ∷ 0x40 ∷ 1 ∷ 0x26 ∷ 0xde ∷ 0x0a ∷ 0 ∷ 0 ∷ 2 ∷ 0x0a ∷ 0 ∷ 0 ∷ 1 ∷ 8 ∷ 0 ∷ 0xf7 ∷ 0xfd ∷ 0 ∷ 1
          ∷ 0 ∷ 1 ∷ [],
      Ok (record { total = 28; proto = Icmp; source = record { 0 = peer }; target = record { 0 = own } }),
    )  -- must not fragment
    ∷ (
      0x45 ∷ 0 ∷ 0 ∷ 0x1c ∷ 0 ∷ 1 ∷ 0x80 ∷ 0 ∷ 0x40 ∷ 1 ∷ 0xe6 ∷ 0xdd ∷ 0x0a ∷ 0 ∷ 0 ∷ 2 ∷ 0x0a ∷ 0 ∷ 0 ∷ 1 ∷ 8 ∷ 0 ∷ 0xf7 ∷ 0xfd ∷ 0 ∷ 1
          ∷ 0 ∷ 1 ∷ [],
      Ok (record { total = 28; proto = Icmp; source = record { 0 = peer }; target = record { 0 = own } }),
    )  -- reserved bit
    ∷ (
      0x45 ∷ 0 ∷ 0 ∷ 0x1c ∷ 0 ∷ 1 ∷ 0 ∷ 0 ∷ 0x40 ∷ 1 ∷ 0x66 ∷ 0xdf ∷ 0x0a ∷ 0 ∷ 0 ∷ 2 ∷ 0x0a ∷ 0 ∷ 0 ∷ 1 ∷ 8 ∷ 0 ∷ 0xf7 ∷ 0xfd ∷ 0 ∷ 1 ∷ 0
          ∷ 1 ∷ [],
      Err Checksum,
    )  -- sum off by one
    ∷ (
      0x45 ∷ 0 ∷ 0 ∷ 0x1c ∷ 0 ∷ 1 ∷ 0 ∷ 0 ∷ 0x40 ∷ 1 ∷ 0x66 ∷ 0xdc ∷ 0x0a ∷ 0 ∷ 0 ∷ 2 ∷ 0x0a ∷ 0 ∷ 0 ∷ 3 ∷ 8 ∷ 0 ∷ 0xf7 ∷ 0xfd ∷ 0 ∷ 1 ∷ 0
          ∷ 1 ∷ [],
      Err NotOurs,
    )  -- another address
    ∷ (
      0x45 ∷ 0 ∷ 0 ∷ 0x1c ∷ 0 ∷ 1 ∷ 0 ∷ 0 ∷ 0x40 ∷ 0x11 ∷ 0x66 ∷ 0xce ∷ 0x0a ∷ 0 ∷ 0 ∷ 2 ∷ 0x0a ∷ 0 ∷ 0 ∷ 1 ∷ 8 ∷ 0 ∷ 0xf7 ∷ 0xfd ∷ 0 ∷ 1
          ∷ 0 ∷ 1 ∷ [],
      Err Protocol,
    )  -- protocol 17
    ∷ (
      0x45 ∷ 0 ∷ 0 ∷ 0x1c ∷ 0 ∷ 1 ∷ 0 ∷ 0 ∷ 0x40 ∷ 6 ∷ 0x66 ∷ 0xd9 ∷ 0x0a ∷ 0 ∷ 0 ∷ 2 ∷ 0x0a ∷ 0 ∷ 0 ∷ 1 ∷ 8 ∷ 0 ∷ 0xf7 ∷ 0xfd ∷ 0 ∷ 1 ∷ 0
          ∷ 1 ∷ [],
      Ok (record { total = 28; proto = Tcp; source = record { 0 = peer }; target = record { 0 = own } }),
    )  -- protocol 6
    ∷ (
      0x65 ∷ 0 ∷ 0 ∷ 0x13 ∷ 0 ∷ 1 ∷ 0 ∷ 0 ∷ 0x40 ∷ 1 ∷ 0x46 ∷ 0xe6 ∷ 0x0a ∷ 0 ∷ 0 ∷ 2 ∷ 0x0a ∷ 0 ∷ 0 ∷ 1 ∷ 8 ∷ 0 ∷ 0xf7 ∷ 0xfd ∷ 0 ∷ 1 ∷ 0
          ∷ 1 ∷ [],
      Err Version,
    )  -- first of three
    ∷ (
      0x45 ∷ 0 ∷ 0 ∷ 0x1c ∷ 0 ∷ 1 ∷ 0x20 ∷ 0 ∷ 0x40 ∷ 1 ∷ 0x46 ∷ 0xdf ∷ 0x0a ∷ 0 ∷ 0 ∷ 2 ∷ 0x0a ∷ 0 ∷ 0 ∷ 1 ∷ 8 ∷ 0 ∷ 0xf7 ∷ 0xfd ∷ 0 ∷ 1
          ∷ 0 ∷ 1 ∷ [],
      Err Fragment,
    )  -- fragment before sum
    ∷ (
      0x45 ∷ 0 ∷ 0 ∷ 0x1c ∷ 0 ∷ 1 ∷ 0 ∷ 0 ∷ 0x40 ∷ 0x11 ∷ 0x66 ∷ 0xcc ∷ 0x0a ∷ 0 ∷ 0 ∷ 2 ∷ 0x0a ∷ 0 ∷ 0 ∷ 3 ∷ 8 ∷ 0 ∷ 0xf7 ∷ 0xfd ∷ 0 ∷ 1
          ∷ 0 ∷ 1 ∷ [],
      Err NotOurs,
    )  -- address before protocol
    ∷ []

heads : map (λ row. head_or_fate row.0 own) head_rows ≡ map (λ row. row.1) head_rows
unfolding head_or_fate folded
heads = refl

written_head : head_bytes 28 1 Icmp peer own ≡ 0x45 ∷ 0 ∷ 0 ∷ 0x1c ∷ 0 ∷ 1 ∷ 0 ∷ 0 ∷ 0x40 ∷ 1 ∷ 0x66 ∷ 0xde ∷ 0x0a ∷ 0 ∷ 0 ∷ 2 ∷ 0x0a ∷ 0 ∷ 0 ∷ 1 ∷ []
unfolding folded head_bytes
written_head = refl
