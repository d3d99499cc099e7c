-- The connection in its slot.
use Rattle.uip_node.proofs.Prelude.{ℕ, ◌≡◌, List, Some, ap, sym, ◌∙◌, length, length-set, subst, false, slice_get, slice_set, Connections}
use Rattle.uip_node.proofs.Prelude.{Conn, Sockets, StepFits, accepted, Step, plain, AllWellFormed, SlotsRepresent}
use Rattle.uip_node.proofs.Places.{is_in_after, represents_after}
use Rattle.uip_node.proofs.Settling.{kept_with, rests_of}
use Rattle.uip_node.proofs.Tables.{table_opens}
use Rattle.uip_node.proofs.slot_events.open_in.Goals as goal

pub invariant_of-table : goal.invariant_of-table
invariant_of-table g c =
    let e = ap (λ (t : Connections g.row.A.Denot). t.conns) c.table.view_is in
    table_opens c.table.inside.conns.items c.args.slot c.accept.new.conn c.table.invariant
    (λ j x h.
    rw (c.accept.ensures.peer, c.accept.ensures.peer_port, c.accept.ensures.own_port)
    (c.requires.free j x (subst (λ (xs : List (Conn g.row.A.Denot)). slice_get xs j ≡ Some x) e h)))
    c.accept.ensures.live

pub returns-clause-kept : goal.returns-clause-kept
returns-clause-kept g c = λ k all.
    let e = ap (λ (t : Connections g.row.A.Denot). t.conns) c.table.view_is in
    kept_with g.A.App k c.table.inside.conns.items c.args.slot c.accept.new.conn
    (subst (λ (xs : List (Conn g.row.A.Denot)). AllWellFormed g.A.App k xs) (sym e) all)
    (record {
      sound = c.accept.ensures.sound k;
      busy = rests_of c.accept.new.conn (Step.SynAck false) tt
          (subst (λ (s : Step). StepFits c.accept.new.conn s) c.accept.ensures.step c.accept.ensures.fits);
    })

pub returns-clause-represented : goal.returns-clause-represented
returns-clause-represented g c = λ k abstracts text stand.
    let e = ap (λ (t : Connections g.row.A.Denot). t.conns) c.table.view_is in
    let f = ap (λ (t : Connections g.row.A.Denot). t.iss) c.table.view_is in
    let sockets : Sockets = record { peer = c.args.peer; peer_port = c.args.seg.now.from; own_port = c.args.seg.now.to } in
    subst (λ (n : ℕ). SlotsRepresent g.A.App k (slice_set c.table.inside.conns.items c.args.slot c.accept.new.conn)
    (slice_set abstracts c.args.slot (accepted n sockets (plain c.args.seg.now text)))) f
    (represents_after g.A.App k c.table.inside.conns.items abstracts c.args.slot c.accept.new.conn
    (accepted c.table.inside.iss.0 sockets (plain c.args.seg.now text))
    (subst (λ (xs : List (Conn g.row.A.Denot)). SlotsRepresent g.A.App k xs abstracts) (sym e) stand) (c.accept.ensures.represented k text))

pub returns-clause-long : goal.returns-clause-long
returns-clause-long g c =
    length-set c.table.inside.conns.items c.args.slot c.accept.new.conn ∙ ap (λ (t : Connections g.row.A.Denot). length t.conns) c.table.view_is

pub returns-clause-fits : goal.returns-clause-fits
returns-clause-fits g c = is_in_after (λ d. StepFits d c.accept.result) c.table.inside.conns.items c.args.slot c.accept.new.conn c.accept.ensures.fits
