-- The laws of the link world at the desk.
use Rattle.desk_laws.proofs.Prelude.{◌==◌, inl, inr, AppSpec, SiteContent, IsLoaded, files_of, pages_of, DeliveredBytes, World, Framed}
use Rattle.desk_laws.proofs.Prelude.{in_step_plainly, in_step_where, AtPorts, G, other, reset, evict, mark, act_good, opening_framed}
use Rattle.desk_laws.proofs.Prelude.{served_in, reached_plainly, reached_where, again_exactly_plainly, again_exactly_where}
use Rattle.desk_laws.proofs.Prelude.{same_bytes_plainly, same_bytes_where, tick, TELNET_PORT, desk_spec, desk_steady, DeskMarksRepeats}
use Rattle.desk_laws.proofs.Prelude.{DeskOneSegment, DeskRepeatsSameBytes, DeskSendsAgain, DeskServes, IsReachedByDesk}
use Rattle.desk_laws.proofs.DeskBytes.{desk_sends}
use Rattle.desk_laws.proofs.DeskSpeakers.{desk_ports, served_due}

pub repeats_same_bytes : DeskRepeatsSameBytes
repeats_same_bytes site loaded w r = elim r [
  | inl any ↦ same_bytes_where (desk_spec (files_of site)) (pages_of (files_of site)) (desk_steady site loaded) DeliveredBytes (desk_sends site loaded) w any
  | inr plain ↦ same_bytes_plainly (desk_spec (files_of site)) (desk_steady site loaded) w plain
]

pub marks_repeats : DeskMarksRepeats
marks_repeats site loaded w r = elim r [
  | inl any ↦ again_exactly_where (desk_spec (files_of site)) (pages_of (files_of site)) (desk_steady site loaded) DeliveredBytes (desk_sends site loaded) w any
  | inr plain ↦ again_exactly_plainly (desk_spec (files_of site)) (desk_steady site loaded) w plain
]

pub sends_again : DeskSendsAgain
sends_again site served n slot c at x = tick (desk_spec (files_of site)) served n slot c at x

module _ (site : SiteContent) (loaded : IsLoaded site) where
  abbrev desk : AppSpec
  desk = desk_spec (files_of site)

  abbrev ports : AtPorts desk
  ports = desk_ports site loaded

  -- what is kept of every client
  abbrev Walked : World → Type 0
  Walked w = Framed desk (G desk ports) (other desk ports) (reset desk ports) (evict desk ports) (mark desk ports) w

  walked : (w : World) → IsReachedByDesk site w → Walked w
  walked w r = elim r [
    | inl any ↦ reached_where desk (pages_of (files_of site)) (desk_steady site loaded) DeliveredBytes (desk_sends site loaded) Walked
        (act_good desk ports) (opening_framed desk ports) w any
    | inr plain ↦ reached_plainly desk (desk_steady site loaded) Walked (act_good desk ports) (opening_framed desk ports) w plain
  ]

pub serves : DeskServes
serves site loaded w r k side x clean =
    served_due site loaded w side (side.client.setup.server_port.0 == TELNET_PORT)
    (served_in (desk_spec (files_of site)) (desk_ports site loaded) w (walked site loaded w r) k side x clean)

pub one_segment : DeskOneSegment
one_segment site loaded w r = elim r [
  | inl any ↦ in_step_where (desk_spec (files_of site)) (desk_ports site loaded) (pages_of (files_of site)) DeliveredBytes (desk_sends site loaded) w any
  | inr plain ↦ in_step_plainly (desk_spec (files_of site)) (desk_ports site loaded) w plain
]
