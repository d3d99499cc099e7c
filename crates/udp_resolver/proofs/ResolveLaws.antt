-- The queries and the report, put together.
use Rattle.udp_resolver.proofs.Prelude.{◌≡◌, ◌<◌, ℕ, length, List, Option, map, refl, sym, ap, ◌∙◌, inr, subst, Appends, Answer, Asking}
use Rattle.udp_resolver.proofs.Prelude.{Item, ServeEnd, Rose, AppendsPrefix, appends_by, prefix_by, Question, answer_among, questions}
use Rattle.udp_resolver.proofs.Prelude.{events, lines, Resolves, ResolvesBy, ReportFailed, WroteAll, Asks, Done, RunRepresents, lines_by}
use Rattle.udp_resolver.proofs.Prelude.{Streams, Run}
use Rattle.uip_edge.specs.declared.serve_end.ServeEnd.TheVariants as ends
use Rattle.udp_resolver.proofs.RunLaws.{lines_reported}

-- the lines of what a run knows
pub lines_known : (asking : Asking) (names : List (List ℕ)) (items : List Item) (run : Run) (answers : List (Option Answer)) → answers ≡ run.answers.items
    → RunRepresents (questions asking names) items run → lines_by names answers run.clock.given_up ≡ lines (questions asking names) (events items)
lines_known asking names items run answers same k =
    ap (λ l. lines_by names l run.clock.given_up) (same ∙ k.heard)
    ∙ ap (λ b. lines_by names (map (answer_among (events items)) (questions asking names)) b) k.at.given_up
    ∙ lines_reported (events items) asking names

module _ (asked : List Question) (n : ℕ) (run : Run) (old new : Streams) where
  -- the result of the queries, with that of the report
  resolves : (end result : ServeEnd) (a : Asks asked n run old.line new.line end) → ResolvesBy asked n old new a.taken result → Resolves asked n old new result
  resolves end result a by = record { taken = a.taken; within = a.within; consumed = a.consumed; needed = a.needed; ends = by }

  -- all was reported
  whole : (end : ServeEnd) (taken : List Item) → Done asked n taken run old.line new.line end → new.tell.faults ≡ old.tell.faults
      → ((taken : List Item) → RunRepresents asked taken run → Appends old.tell.written new.tell.written (lines asked (events taken)))
      → WroteAll asked n old new taken end
  whole end taken d same reported = record {
    done = d.done;
    link_same = d.calm.link;
    out = record { whole = d.out; same = d.calm.sink };
    reported = record { whole = reported taken d.knows; same = same };
  }

  pub reported_all : (end : ServeEnd) → (end ≡ ends.LinkFault → ⊥) → (end ≡ ends.WriteFault → ⊥) → Asks asked n run old.line new.line end
      → new.tell.faults ≡ old.tell.faults → ((taken : List Item) → RunRepresents asked taken run → Appends old.tell.written new.tell.written
      (lines asked (events taken)))
      → Resolves asked n old new end
  reported_all ends.End l w a same reported = resolves ends.End ends.End a (whole ends.End a.taken a.by same reported)
  reported_all ends.Budget l w a same reported = resolves ends.Budget ends.Budget a (whole ends.Budget a.taken a.by same reported)
  reported_all ends.LinkFault l w a same reported = absurd (l refl)
  reported_all ends.WriteFault l w a same reported = absurd (w refl)

  -- the report failed
  part : (end : ServeEnd) (taken : List Item) → Done asked n taken run old.line new.line end → Rose old.tell.faults new.tell.faults
      → ((taken : List Item) → RunRepresents asked taken run → AppendsPrefix old.tell.written new.tell.written (lines asked (events taken)))
      → ((taken : List Item) → RunRepresents asked taken run → 0 < length (lines asked (events taken))) → ReportFailed asked n old new taken
  part end taken d rose reported some = record {
    end = end;
    done = d.done;
    link_same = d.calm.link;
    out = record { whole = d.out; same = d.calm.sink };
    some = some taken d.knows;
    reported = record { prefix = reported taken d.knows; rose = rose };
  }

  pub reported_part : (end : ServeEnd) → (end ≡ ends.LinkFault → ⊥) → (end ≡ ends.WriteFault → ⊥) → Asks asked n run old.line new.line end
      → Rose old.tell.faults new.tell.faults → ((taken : List Item) → RunRepresents asked taken run
      → AppendsPrefix old.tell.written new.tell.written (lines asked (events taken)))
      → ((taken : List Item) → RunRepresents asked taken run → 0 < length (lines asked (events taken))) → Resolves asked n old new ends.WriteFault
  reported_part ends.End l w a rose reported some = resolves ends.End ends.WriteFault a (inr (part ends.End a.taken a.by rose reported some))
  reported_part ends.Budget l w a rose reported some = resolves ends.Budget ends.WriteFault a (inr (part ends.Budget a.taken a.by rose reported some))
  reported_part ends.LinkFault l w a rose reported some = absurd (l refl)
  reported_part ends.WriteFault l w a rose reported some = absurd (w refl)

-- all names were reported, or a prefix of the report was written if it failed
module _ (asking : Asking) (names : List (List ℕ)) (n : ℕ) (run : Run) (old new : Streams) (answers : List (Option Answer)) (same : answers ≡ run.answers.items)
    (end : ServeEnd) (l : end ≡ ends.LinkFault → ⊥) (w : end ≡ ends.WriteFault → ⊥) (a : Asks (questions asking names) n run old.line new.line end) where
  reported_text : (taken : List Item) → RunRepresents (questions asking names) taken run → lines_by names answers run.clock.given_up
      ≡ lines (questions asking names) (events taken)
  reported_text taken k = lines_known asking names taken run answers same k

  pub names_reported : new.tell.faults ≡ old.tell.faults → Appends old.tell.written new.tell.written (lines_by names answers run.clock.given_up)
      → Resolves (questions asking names) n old new end
  names_reported calm whole = reported_all (questions asking names) n run old new end l w a calm
      (λ taken k. appends_by _ _ _ _ (sym (reported_text taken k)) whole)

  pub names_part : Rose old.tell.faults new.tell.faults → AppendsPrefix old.tell.written new.tell.written (lines_by names answers run.clock.given_up)
      → 0 < length (lines_by names answers run.clock.given_up) → Resolves (questions asking names) n old new ends.WriteFault
  names_part rose prefix some =
      reported_part (questions asking names) n run old new end l w a rose (λ taken k. prefix_by _ _ _ _ (sym (reported_text taken k)) prefix)
      (λ taken k. subst (λ (text : List ℕ). 0 < length text) (reported_text taken k) some)
