-- A client opens exactly if it is idle.
use Rattle.link_replay.proofs.Prelude.{◌≡◌, ℕ, List, false, refl, sym, ap, ◌∙◌, subst, None, AbstractClient, ClientStep, keeps}
use Rattle.link_replay.proofs.Prelude.{opens_by, client_opens, ClientState, Idle, is_idle, Side, CodeSide, SideRepresents, Stepped}

rests : (st : ClientState) (c : AbstractClient) → is_idle st ≡ false → opens_by st c ≡ keeps c
unfolding opens_by
rests Idle c h = absurd (cc)
rests _ c h = refl

pub not_opened : (s : Side) (side : CodeSide) (area : List ℕ) → is_idle side.client.state ≡ false → SideRepresents side s
    → Stepped (client_opens s.client) s side None area
not_opened s side area i h =
    let e : client_opens s.client ≡ keeps s.client = rests s.client.state s.client (ap (λ (k : AbstractClient). is_idle k.state) (sym h.client) ∙ i) in
    subst (λ (step : ClientStep). Stepped step s side None area) (sym e)
    record { represented = record { client = h.client; epoch = h.epoch; first_stale = h.first_stale }; sent = refl }
