use Rattle.ethernet_arp.proofs.SendingLaws.{all_go_home}
use Rattle.ethernet_arp.proofs.laws.datagrams_go_home.Goals as goal

pub returns : goal.returns
returns c = all_go_home
