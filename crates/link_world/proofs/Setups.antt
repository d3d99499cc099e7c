-- What a step of a client preserves, whatever the node did: its setup and its request, and that it is not idle.
use Rattle.link_world.proofs.Prelude.{◌≡◌, ◌&&◌, Bool, true, false, refl, ap, eqb, ◌∙◌, PlainSegment, has_ack, has_fin, AbstractClient}
use Rattle.link_world.proofs.Prelude.{ClientStep, after_fin, client_aborts, client_again, client_closes, client_opens, client_takes}
use Rattle.link_world.proofs.Prelude.{has_outstanding, receives_ack, next_own, opened_by, sends_next, takes_in_order, takes_text}
use Rattle.link_world.proofs.Prelude.{ClientState, is_idle, Planned, choose}
use Rattle.link_client.specs.declared.client_state.ClientState.TheVariants as Is
use Rattle.link_world.proofs.ClientCases.{of_aborts, of_again, of_closes, of_opens, of_order, of_sends, of_takes}

-- what a plan fixes of a client
abbrev pub planned_by : AbstractClient → Planned
planned_by c = record { setup = c.setup; request = c.request }

pub record Follows (c d : AbstractClient) : Type 0 where
  pub stays : is_idle c.state ≡ false → is_idle d.state ≡ false
  pub planned : planned_by d ≡ planned_by c

abbrev pub Keeps : AbstractClient → ClientStep → Type 0
Keeps c x = Follows c x.client

follows_on : (c d e : AbstractClient) → Follows c d → Follows d e → Follows c e
follows_on c d e g h = record { stays = λ i. h.stays (g.stays i); planned = h.planned ∙ g.planned }

sends_keeps : (owed : Bool) (c : AbstractClient) → Keeps c (sends_next owed c)
sends_keeps owed c =
    of_sends (λ x. Keeps c x) c owed record { stays = λ h. h; planned = refl } record { stays = λ h. h; planned = refl }
    (λ o r. record { stays = λ h. h; planned = refl }) (λ o f n. record { stays = λ h. h; planned = refl })

-- from what follows on the client
from_keeps : (c d : AbstractClient) (owed : Bool) → Follows c d → Keeps c (sends_next owed d)
from_keeps c d owed g = follows_on c d (sends_next owed d).client g (sends_keeps owed d)

ack_follows : (c : AbstractClient) (s : PlainSegment) → Follows c (receives_ack c s)
ack_follows c s =
    choose (λ x. Follows c x) (has_ack s.flags && (has_outstanding c && eqb s.ack (next_own c))) _ _
    (λ e. record { stays = λ h. h; planned = refl }) (λ e. record { stays = λ h. h; planned = refl })

fin_stays : (st : ClientState) → is_idle st ≡ false → is_idle (after_fin st) ≡ false
fin_stays Is.Idle h = h
fin_stays _ h = refl

text_follows : (c : AbstractClient) (s : PlainSegment) → Follows c (takes_text c s)
text_follows c s = record {
  stays = λ h. choose (λ x. is_idle x ≡ false) (has_fin s.flags) (after_fin c.state) c.state
      (λ e. fin_stays c.state h) (λ e. h);
  planned = refl;
}

order_keeps : (c : AbstractClient) (s : PlainSegment) → Keeps c (takes_in_order c s)
order_keeps c s = of_order (λ x. Keeps c x) c s (sends_keeps true c) (sends_keeps false c) (λ g. from_keeps c (takes_text c s) true (text_follows c s))

pub takes_keeps : (c : AbstractClient) (s : PlainSegment) → Keeps c (client_takes c s)
takes_keeps c s =
    let d : AbstractClient = receives_ack c s in
    of_takes (λ x. Keeps c x) c s record { stays = λ h. h; planned = refl } (λ b. record { stays = λ h. refl; planned = refl })
    (λ e r f. from_keeps c (opened_by c s) true record { stays = λ h. refl; planned = refl })
    (λ r. follows_on c d (takes_in_order d s).client (ack_follows c s) (order_keeps d s))

pub opens_keeps : (c : AbstractClient) → Keeps c (client_opens c)
opens_keeps c = of_opens (λ x. Keeps c x) c record { stays = λ h. h; planned = refl } (λ e. record { stays = λ h. refl; planned = refl })

pub again_keeps : (c : AbstractClient) → Keeps c (client_again c)
again_keeps c =
    of_again (λ x. Keeps c x) c record { stays = λ h. h; planned = refl } record { stays = λ h. h; planned = refl } record { stays = λ h. h; planned = refl }
    (λ f. record { stays = λ h. h; planned = refl }) record { stays = λ h. h; planned = refl }

pub closes_keeps : (c : AbstractClient) → Keeps c (client_closes c)
closes_keeps c =
    of_closes (λ x. Keeps c x) c record { stays = λ h. h; planned = refl } (λ e. from_keeps c (record c { state = Is.Closing }) false
    record { stays = λ h. refl; planned = refl })

pub aborts_keeps : (c : AbstractClient) → Keeps c (client_aborts c)
aborts_keeps c = of_aborts (λ x. Keeps c x) c record { stays = λ h. h; planned = refl } (λ e. record { stays = λ h. refl; planned = refl })

-- its setup alone
abbrev pub SameSetup : AbstractClient → ClientStep → Type 0
SameSetup c x = x.client.setup ≡ c.setup

pub setup_of : (c : AbstractClient) (x : ClientStep) → Keeps c x → SameSetup c x
setup_of c x g = ap (λ (p : Planned). p.setup) g.planned

pub takes_setup : (c : AbstractClient) (s : PlainSegment) → SameSetup c (client_takes c s)
takes_setup c s = setup_of c (client_takes c s) (takes_keeps c s)

pub opens_setup : (c : AbstractClient) → SameSetup c (client_opens c)
opens_setup c = setup_of c (client_opens c) (opens_keeps c)

pub again_setup : (c : AbstractClient) → SameSetup c (client_again c)
again_setup c = setup_of c (client_again c) (again_keeps c)

pub closes_setup : (c : AbstractClient) → SameSetup c (client_closes c)
closes_setup c = setup_of c (client_closes c) (closes_keeps c)

pub aborts_setup : (c : AbstractClient) → SameSetup c (client_aborts c)
aborts_setup c = setup_of c (client_aborts c) (aborts_keeps c)
