-- The form of a line that makes a client.
use Rattle.std.specs.Prelude.{◌&&◌, if◌then◌else◌, ◌∷◌, ◌++◌, [], Bool, bytes_eq, codes, Err, length, List, nat_le, Ok, Result, ℕ}
use Rattle.std.specs.List.{list_all}
use Rattle.hex.specs.Hex.{decode_of}
use Rattle.hex.specs.declared.error.FromHexError.{FromHexError}
use Rattle.uip_wire.specs.declared.addr.Addr.{Addr}
use Rattle.uip_wire.specs.declared.port.Port.{Port}
use Rattle.link_schedule.specs.declared.sides.ClientSide.{ClientSide}
use Rattle.link_schedule.specs.declared.why.Why.{Why}
use Rattle.link_schedule.specs.declared.why.Why.TheVariants.{Form}
use Rattle.link_schedule.specs.Numbers.{◌>>=◌, within, address}

-- a client of a schedule: its address and port, how it cuts its text, and its request
pub record Plan : Type 0 where
  pub addr : Addr
  pub port : Port
  pub mss : ℕ
  pub seg : ℕ
  pub request : List ℕ

-- `ADDR PORT MSS SEG`
abbrev pub side_of : List ℕ → List ℕ → List ℕ → List ℕ → Result ClientSide Why
side_of addr port mss seg = do
  addr' ← address addr
  port' ← within 1 65535 port
  mss' ← within 0 65535 mss
  seg' ← within 1 1460 seg
  Ok (record { addr = addr'; port = record { 0 = port' }; mss = mss'; seg = seg' })

-- one word of visible bytes, so that the request has at most 4096 bytes
abbrev pub is_target : List ℕ → Bool
is_target word = nat_le 1 (length word) && nat_le (length word) 4079 && list_all (λ c. nat_le 33 c && nat_le c 126) word

-- `get TARGET`
abbrev pub got : List ℕ → Result (List ℕ) Why
got target = if is_target target then Ok (codes "GET " ++ target ++ codes " HTTP/1.0\r\n\r\n") else Err Form

-- bytes in digits of either case, from 1 to 4096
abbrev pub raw : Result (List ℕ) FromHexError → Result (List ℕ) Why
raw (Ok bytes) = if nat_le 1 (length bytes) && nat_le (length bytes) 4096 then Ok bytes else Err Form
raw (Err e) = Err Form

-- `get TARGET`, or `raw HEX`
abbrev pub request_of : List ℕ → List ℕ → Result (List ℕ) Why
request_of how what =
    if bytes_eq how (codes "get") then got what
    else if bytes_eq how (codes "raw") then raw (decode_of what)
    else Err Form

abbrev pub plan_with : List ℕ → List ℕ → List ℕ → List ℕ → List ℕ → List ℕ → Result Plan Why
plan_with addr port mss seg how what = do
  side ← side_of addr port mss seg
  request ← request_of how what
  Ok (record { addr = side.addr; port = side.port; mss = side.mss; seg = side.seg; request = request })

-- the words after `client`: `ADDR PORT MSS SEG`, and the request
abbrev pub plan_of : List (List ℕ) → Result Plan Why
plan_of (addr ∷ port ∷ mss ∷ seg ∷ how ∷ what ∷ []) = plan_with addr port mss seg how what
plan_of words = Err Form
