use Rattle.link_world.proofs.laws.sent_to_clients.Goals as goal
use Rattle.link_world.proofs.Senders.{sent_to_clients}

pub returns : goal.returns
returns c = sent_to_clients
