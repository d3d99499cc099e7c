-- Invariants of a clean client: the slices of its page, its FINs, its epochs and its requests.
use Rattle.std.specs.Prelude.{◌≡◌, ℕ, suc, ◌+◌, ◌<◌, ◌≤◌, ◌⊎◌, true, false, List, [], length, take, Some, None, slice_get, is_some}
use Rattle.uip_wire.specs.Prelude.{wrap}
use Rattle.tcp_segment.specs.Prelude.{PlainSegment, has_syn, has_fin, has_rst, has_ack}
use Rattle.app_events.specs.Prelude.{AppSpec, IsPrefixOf, Pages, IsPaged}
use Rattle.app_events.specs.declared.state.State.TheVariants.{SynRcvd}
use Rattle.tcp_machine.specs.Prelude.{Connection, is_live}
use Rattle.link_client.specs.Prelude.{AbstractClient, own_first, fin_sent}
use Rattle.link_client.specs.declared.client_state.ClientState.TheVariants.{Idle, Opening}
use Rattle.uip_node.specs.Prelude.{IsSlice}
use Rattle.link_world.specs.World.{World, Side, Sent, PastConnection, is_clean}
use Rattle.link_world.specs.World.Content.{OfSegment}
use Rattle.link_world.specs.declared.who.Who.TheVariants.{FromClient, FromNode}
use Rattle.link_world.specs.History.{era}
use Rattle.link_world.specs.Headline.{IsReached, server_side}
use Rattle.link_world.specs.Nodes.{HasTextNumbers}

-- the page that the snapshots of a past connection determine
abbrev pub page_in : Pages → Side → PastConnection → List ℕ
page_in pages side era = pages.page side.client.request era.snapshots

pub record IsText (pages : Pages) (side : Side) (epoch : ℕ) (era : PastConnection) (s : PlainSegment) : Type 0 where
  pub opened : side.opened ≡ Some epoch
  pub at : ℕ
  pub slice : IsSlice (page_in pages side era) s.text at
  pub seq : s.seq ≡ wrap (era.iss + 1 + at)

pub record IsFin (pages : Pages) (side : Side) (epoch : ℕ) (era : PastConnection) (s : PlainSegment) : Type 0 where
  pub opened : side.opened ≡ Some epoch
  pub alone : s.text ≡ []
  pub whole : pages.complete side.client.request era.snapshots ≡ true
  pub seq : s.seq ≡ wrap (era.iss + 1 + length (page_in pages side era))

-- A segment of the node to a client, without RST. A SYN-ACK has the ISS of its connection. Text is a slice of the page at its offset, and
-- a FIN follows the whole page. Both are sent only in the epoch in which the client opened.
pub record SendsPage (pages : Pages) (side : Side) (epoch : ℕ) (era : PastConnection) (s : PlainSegment) : Type 0 where
  pub syn : has_syn s.flags ≡ true → s.seq ≡ wrap era.iss
  pub text : has_syn s.flags ≡ false → 0 < length s.text → IsText pages side epoch era s
  pub fin : has_syn s.flags ≡ false → has_fin s.flags ≡ true → IsFin pages side epoch era s

-- The text of a client is a slice of its request at its offset.
pub record AsksRequest (side : Side) (s : PlainSegment) : Type 0 where
  pub at : ℕ
  pub slice : IsSlice side.client.request s.text at
  pub seq : s.seq ≡ wrap (own_first side.client + 1 + at)

-- A client in the state `Idle` or `Opening` has not opened. Before it opened it has received nothing, and its connection is at most in
-- SYN-RECEIVED. After it opened, its connection is live only in that epoch.
pub record HasOneEpoch (side : Side) (c : Connection) : Type 0 where
  pub unopened : (side.client.state ≡ Idle) ⊎ (side.client.state ≡ Opening) → side.opened ≡ None
  pub nothing : side.opened ≡ None → side.client.received ≡ []
  pub waits : side.opened ≡ None → is_live c.state ≡ true → c.state ≡ SynRcvd
  pub opened_in : (o : ℕ) → side.opened ≡ Some o → is_live c.state ≡ true → o ≡ length side.history

-- How much of the request the server accepted: at least what is acknowledged, at most what was sent, and possibly the FIN after it. The
-- application received a prefix of these bytes. In ESTABLISHED it received all of them, in CLOSE-WAIT all except the FIN.
pub record HasTaken (client : AbstractClient) (c : Connection) : Type 0 where
  pub bytes : ℕ
  pub least : client.acked ≤ bytes
  pub most : bytes ≤ client.acked + client.out
  pub taken : (c.taken ≡ bytes) ⊎ ((fin_sent client.fin ≡ true) × (c.taken ≡ bytes + 1))
  pub input : IsPrefixOf c.part.input (take bytes client.request)
  pub numbers : HasTextNumbers c

-- Every datagram of the node and of the client is one of these segments. A client acknowledges nothing before it opened. Its server
-- accepted what it may of the request.
pub record HasParts (pages : Pages) (w : World) (number : ℕ) (side : Side) (c : Connection) : Type 0 where
  pub of_node : (i : ℕ) (e : Sent) (id : ℕ) (s : PlainSegment) → slice_get w.sent i ≡ Some e → e.who ≡ FromNode number
      → e.content ≡ OfSegment id s → has_rst s.flags ≡ false →
      SendsPage pages side e.epoch (era side.history c e.epoch) s
  pub of_client : (i : ℕ) (e : Sent) (id : ℕ) (s : PlainSegment) → slice_get w.sent i ≡ Some e → e.who ≡ FromClient number
      → e.content ≡ OfSegment id s → has_rst s.flags ≡ false → 0 < length s.text →
      AsksRequest side s
  pub acknowledges : (i : ℕ) (e : Sent) (id : ℕ) (s : PlainSegment) → slice_get w.sent i ≡ Some e → e.who ≡ FromClient number
      → e.content ≡ OfSegment id s → has_rst s.flags ≡ false → has_ack s.flags ≡ true →
      is_some side.opened ≡ true
  pub requested : is_live c.state ≡ true → is_some side.opened ≡ true → HasTaken side.client c
  pub epochs : HasOneEpoch side c

abbrev pub CleanParts : Type 0
CleanParts =
    (m : AppSpec) (pages : Pages) → IsPaged m pages → (w : World) → IsReached m pages w →
    (k : ℕ) (side : Side) → slice_get w.sides k ≡ Some side → is_clean side ≡ true → HasParts pages w (suc k) side (server_side w side)
