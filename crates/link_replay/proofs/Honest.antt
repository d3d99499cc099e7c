-- A schedule of one client over a link that loses nothing.
use Rattle.link_replay.proofs.Prelude.{All, list_all, ◌≡◌, ℕ, zero, suc, ◌≤◌, ◌&&◌, true, replicate, List, [], ◌∷◌, Some, Ok, length, sym}
use Rattle.link_replay.proofs.Prelude.{subst, refl, ap, ◌∙◌, arith, lit<, leb, slice_get, and_parts, leb-true, All-head, All-replicate}
use Rattle.link_replay.proofs.Prelude.{IsU32, SiteContent, IsLoaded, files_of, pages_of, IsServedWhole, World, SchedulePlan, outcome, File}
use Rattle.link_replay.proofs.Prelude.{web_spec, Plan, client_in_range, is_between, IsPlan, IsPlanned, Planned, plays, Round, opening_for}
use Rattle.link_replay.proofs.Prelude.{plan_from, planned, server, IsHonest, rounds_for, HonestReplay, is_served, no_hits}
use Rattle.link_replay.proofs.Web.{honest_pages}
use Rattle.link_schedule.specs.declared.event.Event.{Event}
use Rattle.link_schedule.specs.declared.event.Event.TheVariants.{Opens}
use Rattle.link_replay.proofs.Opened.{is_plan, server_is_addr}
use Rattle.link_replay.proofs.Typed.{HasTypes, all_typed, read_keeps}

is_planned : (plan : Plan) → HasTypes plan → client_in_range plan ≡ true → IsPlanned (planned 1 plan)
is_planned plan types range =
    let parts = and_parts (is_between 1 65535 plan.port.0 && is_between 1 1460 plan.seg) (is_between 1 4096 (length plan.request)) range in
    let sides = and_parts (is_between 1 65535 plan.port.0) (is_between 1 1460 plan.seg) parts.0 in
    let ports = and_parts (leb 1 plan.port.0) (leb plan.port.0 65535) sides.0 in
    let segs = and_parts (leb 1 plan.seg) (leb plan.seg 1460) sides.1 in
    let sizes = and_parts (leb 1 (length plan.request)) (leb (length plan.request) 4096) parts.1 in
    let port : plan.port.0 ≤ 65535 = leb-true plan.port.0 65535 ports.1 in
    record {
      addr = types.addr;
      port = omega (arith, port);
      server = server_is_addr;
      server_port = lit< tt;
      offered = types.offered;
      iss = lit< tt;
      short = leb-true (length plan.request) 4096 sizes.1;
      all_bytes = types.all_bytes;
      seg = (leb-true 1 plan.seg segs.0, leb-true plan.seg 1460 segs.1);
    }

-- one client alone is a plan
one_plan : (plan : Plan) → IsPlanned (planned 1 plan) → IsPlan (planned 1 plan ∷ [])
one_plan plan is = is_plan (plan ∷ []) refl (λ k p there. only k p there)
  where
    only : (k : ℕ) (p : Planned) → slice_get (planned 1 plan ∷ []) k ≡ Some p → IsPlanned p
    only zero p there = let e : planned 1 plan ≡ p = cc in subst IsPlanned e is
    only (suc k) p there = absurd (cc)

-- the lines of such a schedule are played to their end, and the client has its whole page
honest_outcome : (site : SiteContent) → IsLoaded site → (content : SchedulePlan) (plan : Plan) → IsPlanned (planned 1 plan)
    → IsHonest (files_of site) content plan
    → (w : World) × (outcome (files_of site) content ≡ Ok w) × IsServedWhole (pages_of (files_of site)) w
honest_outcome site loaded content plan is honest =
    let files : List File = files_of site in
    let room = honest.room in
    let world = honest_pages site loaded is_served server (no_hits files) (planned 1 plan) server_is_addr (All-replicate IsU32 (length files) 0 (lit< tt))
    (one_plan plan is) refl honest.decided (omega (arith, room)) in
    let lines = ap (λ (events : List Event). plays (web_spec files) is_served events (opening_for (no_hits files) content.clients)) honest.lines in
    let clients = ap (λ (plans : List Plan). plays (web_spec files) is_served (Opens 1 ∷ replicate (rounds_for files plan) Round)
    (opening_for (no_hits files) plans)) honest.alone in
    (world.0, lines ∙ clients ∙ world.1, world.2)

-- so it is of the world that is reached
pub honest_at : (site : SiteContent) → IsLoaded site → (content : SchedulePlan)
    → ((k : ℕ) (p : Planned) → slice_get (plan_from 1 content.clients) k ≡ Some p → IsPlanned p)
    → (w : World) → outcome (files_of site) content ≡ Ok w
    → (plan : Plan) → IsHonest (files_of site) content plan → IsServedWhole (pages_of (files_of site)) w
honest_at site loaded content are_planned w reached plan honest =
    let is = are_planned 0 (planned 1 plan) (ap (λ (plans : List Plan). slice_get (plan_from 1 plans) 0) honest.alone) in
    let whole = honest_outcome site loaded content plan is honest in
    let there : outcome (files_of site) content ≡ Ok whole.0 = whole.1 in
    let same : whole.0 ≡ w = cc in
    subst (IsServedWhole (pages_of (files_of site))) same whole.2

pub honest_replay : HonestReplay
honest_replay site loaded text content reads plan honest =
    let typed : HasTypes plan = All-head HasTypes plan [] (subst (All HasTypes) honest.alone (all_typed text content reads)) in
    let keeps = read_keeps text content reads in
    let range : client_in_range plan ≡ true = (and_parts (client_in_range plan) true (ap (list_all client_in_range) (sym honest.alone)
    ∙ keeps.clients_in_range)).0 in
    let whole = honest_outcome site loaded content plan (is_planned plan typed range) honest in
    (whole.0, record { content = content; reads = reads; plays = whole.1 }, whole.2)
