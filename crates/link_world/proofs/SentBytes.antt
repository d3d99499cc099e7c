-- What is known of each connection of a node, so that all that its application sends is bytes.
use Rattle.link_world.proofs.Prelude.{All, ℕ, List, PlainSegment, AppSpec, IsByte, IsPaged, Pages, Now, Sockets, Connection, closed, asked}
use Rattle.link_world.proofs.Prelude.{accepted, on_segment, on_tick, HasBytes, SendsBytes, DeliveredBytes, asked_bytes, on_segment_bytes}
use Rattle.link_world.proofs.Prelude.{on_tick_bytes, page_bytes, FitConn, all_nil}

-- H holds of a connection that is CLOSED or new, and of one after each event that brings bytes. If it holds, bytes are sent.
pub record SendsBytesWhere (m : AppSpec) (H : Connection → Type 0) : Type 0 where
  pub closed_knows : H closed
  pub accepted_knows : (iss : ℕ) (sockets : Sockets) (s : PlainSegment) → H (accepted iss sockets s)
  pub segment_knows : (at : Connection → Now) (c : Connection) (numbers : List ℕ) (s : PlainSegment) → All IsByte s.text → H c
      → H (asked m at (on_segment m c numbers s)).connection
  pub tick_knows : (at : Connection → Now) (c : Connection) (numbers : List ℕ) → H c → H (asked m at (on_tick m c numbers)).connection
  pub says : (c : Connection) → FitConn c → H c → All IsByte (m.output c.part)

-- where pages are bytes, each connection received bytes
pub pages_send_bytes : (m : AppSpec) (pages : Pages) → IsPaged m pages → HasBytes pages → SendsBytesWhere m DeliveredBytes
pages_send_bytes m pages lawful page = (let bytes : SendsBytes m = page_bytes m pages lawful page in record {
  closed_knows = all_nil IsByte;
  accepted_knows = λ iss sockets s. all_nil IsByte;
  segment_knows = λ at c numbers s are h. asked_bytes m bytes at (on_segment m c numbers s) (on_segment_bytes m bytes c numbers s are h);
  tick_knows = λ at c numbers h. asked_bytes m bytes at (on_tick m c numbers) (on_tick_bytes m bytes c numbers h);
  says = λ c f h. bytes.output c.part h f.snapshots;
})
