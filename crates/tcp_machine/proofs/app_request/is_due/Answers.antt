-- The state that the connection represents stays.
use Rattle.tcp_machine.proofs.Prelude.{ap, sym, ◌∙◌, AppState, is_open}
use Rattle.tcp_machine.proofs.Transmission.{has_part_of}
use Rattle.tcp_machine.proofs.app_request.is_due.Goals as goal

pub is_due-requires : goal.is_due-requires
is_due-requires g c = has_part_of g.A.App (g.A.App.config c.args.shared.now) c.args.conn.now c.requires.sound c.requires.asked.open_to_it

pub returns : goal.returns
returns g c = record {
  not_due = λ e a now h.
      ap (λ (p : AppState). record a { part = p })
      (c.is_due.ensures.not_due e a.part now (h.part (sym (ap is_open h.numbers.state) ∙ c.requires.asked.open_to_it)));
}
