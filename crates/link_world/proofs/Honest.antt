-- One client over a link that loses nothing has its whole page.
use Rattle.link_world.proofs.Prelude.{All, ◌≡◌, ℕ, zero, suc, ◌+◌, ◌-◌, ◌*◌, ◌<◌, ◌≤◌, min, Bool, true, inr, List, [], ◌∷◌, ◌++◌, length}
use Rattle.link_world.proofs.Prelude.{replicate, refl, sym, ap, ◌∙◌, subst, arith, Some, None, Ok, slice_get, suc-mul, wrap, Addr, AppState}
use Rattle.link_world.proofs.Prelude.{AppSpec, Pages, IsPaged, IsU32, IsAddr, SynRcvd, Connection, first_mss, PlainSegment, ticks_of}
use Rattle.link_world.proofs.Prelude.{AbstractNode, initial_node, AbstractClient, offered, syn_of, opens_by, FinAt, Setup, World, Side}
use Rattle.link_world.proofs.Prelude.{Sent, plays_line, plays_from, plays, Planned, IsPlanned, IsPlan, initial_world, Opens, Round, IsAct}
use Rattle.link_world.proofs.Prelude.{IsPlainAct, OfLine, IsSchedulePlayed, IsServed, AnswersIn, IsServedWhole, HonestLink, wrap_wrap}
use Rattle.link_world.proofs.Prelude.{FitConn, all_nil, all_cons}
use Rattle.link_client.specs.declared.client_state.ClientState.TheVariants as Is
use Rattle.link_schedule.specs.declared.event.Event.{Event}
use Rattle.link_world.proofs.Doing.{goes_on_with}
use Rattle.link_world.proofs.PrefixAndWhole.{prefix_and_whole}
use Rattle.link_world.proofs.Lines.{lines_are_acts}
use Rattle.link_world.proofs.Rounds.{only_side, under_way}
use Rattle.link_world.proofs.HonestClient.{client_at, open_with, next_out, node_syn_ack, opens_at_syn_ack, sends_something}
use Rattle.link_world.proofs.HonestNode.{conn_at, node_at, opens_first, visits_first}
use Rattle.link_world.proofs.HonestRun.{Ended, by_client, by_node, node_round, client_round, after_visit, ends}

all_same : (P : Event → Type 0) (e : Event) (n : ℕ) → P e → All P (replicate n e)
all_same P e zero h = all_nil P
all_same P e (suc n) h = all_cons P e (replicate n e) h (all_same P e n h)

-- the first part of what is left
some_part : (parts n seg : ℕ) → 0 < n → n ≤ parts * seg → 1 ≤ parts
some_part zero n seg h l = absurd (omega arith)
some_part (suc parts) n seg h l = omega arith

first_sent : (parts n seg : ℕ) → n ≤ parts * seg → n ≤ 0 + min seg (n - 0) + (parts - 1) * seg
first_sent zero n seg l = omega arith
first_sent (suc parts) n seg l =
    let e : (suc parts - 1) * seg ≡ parts * seg = ap (λ k. k * seg) (let z : suc parts - 1 ≡ parts = omega arith in z) in
    omega (arith, l, e, suc-mul parts seg)

abbrev lines_of : ℕ → List Event
lines_of n = Opens 1 ∷ replicate n Round

module _ (m : AppSpec) (pages : Pages) (lawful : IsPaged m pages) (served : ℕ → Bool) (addr : Addr) (numbers : List ℕ) (p : Planned) where
  -- the client opens
  pub opening_line : plays_line m served (initial_world addr numbers (p ∷ [])) (Opens 1)
      ≡ Ok (under_way (initial_node addr numbers) (only_side (client_at p.setup p.request Is.Opening [] 0 0 FinAt.NotSent 0) None) []
      (by_client (ticks_of []) 0 (syn_of (client_at p.setup p.request Is.Opening [] 0 0 FinAt.NotSent 0))))
  unfolding opens_by
  opening_line = refl

  -- the world that is played is served
  pub served_by : (lines : List Event) → All (OfLine IsAct) lines → All (OfLine IsPlainAct) lines → IsAddr addr → All IsU32 numbers → IsPlan (p ∷ [])
      → Ended (plays m served lines (initial_world addr numbers (p ∷ []))) →
      (w : World) × (plays m served lines (initial_world addr numbers (p ∷ [])) ≡ Ok w) × IsServedWhole pages w
  served_by lines are_acts plain a words plan e =
      let w : World = e.world in
      let side : Side = only_side e.client e.opened in
      let there : slice_get w.sides 0 ≡ Some side = ap (λ (l : List Side). slice_get l 0) e.sides in
      let played : IsSchedulePlayed m pages w = record {
        served = served;
        start = record { addr = addr; is_addr = a; numbers = numbers; in_range = words; plan = p ∷ []; is_plan = plan };
        lines = lines;
        are_acts = are_acts;
        bytes = inr plain;
        accepted = e.is;
      } in
      let has : IsServed pages (record w { mark = 0 }) side = prefix_and_whole m pages lawful (record w { mark = 0 })
      (lines_are_acts m pages w played) 0 side there refl in
      let closed = ap Rattle.link_client.specs.Client.has_closed e.closed in
      (w, e.is, record { side = side; there = there; closed = e.closed; clean = refl; received = has.all closed; whole = has.whole closed })

  served_whole : (n : ℕ) → IsAddr addr → All IsU32 numbers → IsPlan (p ∷ []) → Ended (plays m served (lines_of n) (initial_world addr numbers (p ∷ []))) →
      (w : World) × (plays m served (lines_of n) (initial_world addr numbers (p ∷ [])) ≡ Ok w) × IsServedWhole pages w
  served_whole n = served_by (lines_of n) (all_cons (OfLine IsAct) (Opens 1) (replicate n Round) tt (all_same (OfLine IsAct) Round n (λ k. tt)))
      (all_cons (OfLine IsPlainAct) (Opens 1) (replicate n Round) tt (all_same (OfLine IsPlainAct) Round n (λ k. tt)))

  module _ (fine : AppState → Bool) (left : AppState → ℕ) (parts texts : ℕ)
      (answers : AnswersIn m p.request (first_mss (offered p.setup.mss)) fine left texts) where
    runs_to_its_end : All IsU32 numbers → IsPlanned p → served p.setup.server_port.0 ≡ true → 0 < length p.request
        → length p.request ≤ parts * p.setup.seg → 2 * parts + 2 * texts + 7 ≤ 65535 →
        Ended (plays m served (lines_of (2 * parts + 2 * texts + 6)) (initial_world addr numbers (p ∷ [])))
    runs_to_its_end words is port some long room =
        let n : ℕ = 2 * parts + 2 * texts + 3 in
        let setup : Setup = p.setup in
        let request : List ℕ = p.request in
        let opening_client : AbstractClient = client_at setup request Is.Opening [] 0 0 FinAt.NotSent 0 in
        let o = opens_first m pages lawful served addr setup request numbers port in
        let k : Connection = conn_at m pages lawful served addr setup request SynRcvd 0 o.iss 0 1 o.part in
        let node : AbstractNode = node_at m pages lawful served addr setup request numbers o.history k in
        let seq : ℕ = wrap (o.iss + 0) in
        let ack : ℕ = wrap (setup.iss.0 + 1 + 0) in
        let s : PlainSegment = node_syn_ack setup request seq ack in
        let x : ℕ = wrap (seq + 1) in
        let next = sends_something setup request [] 0 x in
        let c : AbstractClient = open_with setup request [] 0 (next_out setup request 0) x in
        let one : List Sent = by_client (ticks_of []) 0 (syn_of opening_client) ∷ [] in
        let two : List Sent = one ++ by_node (ticks_of o.history) o.id s ∷ [] in
        let expected : x ≡ wrap (o.iss + 1) = wrap_wrap (o.iss + 0) 1 ∙ ap wrap (let z : o.iss + 0 + 1 ≡ o.iss + 1 = omega arith in z) in
        let fit : FitConn k = record {
          rest = λ r. absurd (cc);
          snapshots = subst (λ l. All Rattle.app_events.specs.Pages.IsSnapshot l)
              (sym o.none) (all_nil Rattle.app_events.specs.Pages.IsSnapshot);
          addr = is.addr;
          port = is.port;
        } in
        let seg : 1 ≤ setup.seg = is.seg.0 in
        let says = visits_first m pages lawful served addr setup request fine left texts answers numbers o.history o.iss x o.part
        next.segment seg next.decodes expected words fit in
        let more : 1 ≤ parts = some_part parts (length request) setup.seg some long in
        let enough : length request ≤ 0 + next_out setup request 0 + (parts - 1) * setup.seg = first_sent parts (length request) setup.seg long in
        let count : 2 * parts + 2 * texts + 6 ≡ suc (suc (suc n)) = omega arith in
        subst (λ j. Ended (plays m served (lines_of j) (initial_world addr numbers (p ∷ [])))) (sym count)
        (subst Ended (sym (ap (λ r. goes_on_with 0 (plays_from m served 1 (replicate (suc (suc (suc n))) Round)) r) opening_line))
        (node_round m served (suc (suc n)) 1 (initial_node addr numbers) node opening_client None [] (ticks_of []) 0 o.id
        (syn_of opening_client) s (omega arith) o.is
        (client_round m served (suc n) (1 + 1) node opening_client c None one (ticks_of o.history) o.id s next.segment (omega arith)
        (opens_at_syn_ack setup request seq ack (ap wrap (let z : setup.iss.0 + 1 + 0 ≡ setup.iss.0 + 1 = omega arith in z)) ∙ next.is)
        (after_visit m pages lawful served addr setup request fine left texts answers seg (parts - 1 + texts) n (parts - 1) o.iss (0 + 1)
        texts (ends m pages lawful served addr setup request fine left texts answers seg (parts - 1 + texts)) node 0
        (next_out setup request 0) x (ticks_of o.history) 0 [] two next.segment says expected
        (omega arith) (omega arith) (omega (arith, more)) enough (omega (arith, room)) (1 + 1 + 1)))))

pub honest_link : HonestLink
honest_link m pages lawful served addr numbers p a words plan port fine left parts texts answers some long room =
    served_whole m pages lawful served addr numbers p (2 * parts + 2 * texts + 6) a words plan
    (runs_to_its_end m pages lawful served addr numbers p fine left parts texts answers words (plan.each 0 p refl) port some long room)
