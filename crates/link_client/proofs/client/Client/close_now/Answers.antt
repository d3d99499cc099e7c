-- An open client sends what is next of its request, or its FIN.
use Rattle.link_client.proofs.Prelude.{◌≡◌, ◌&&◌, ◌||◌, Bool, true, false, [], refl, sym, ap, ◌∙◌, Client, has_more_to_send, is_opened}
use Rattle.link_client.proofs.Prelude.{abstract_client, ClientState, Closing}
use Rattle.link_client.proofs.client.Client.close_now.Goals as goal

or_false : (b : Bool) → b || false ≡ b
or_false true = refl
or_false false = refl

pub returns-in-Opened-clause-answers : goal.returns-in-Opened-clause-answers
returns-in-Opened-clause-answers c =
    let more : Client → Bool = λ v. has_more_to_send (abstract_client (record v { state = Closing }) c.args.request.now []) in
    c.send_next.ensures.answers ∙ or_false _ ∙ ap more c.self.view_is
    ∙ ap (λ (s : ClientState). is_opened s && more c.args.self.now) (sym c.in-Opened.is ∙ ap (λ (v : Client). v.state) c.self.view_is)
