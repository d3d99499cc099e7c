use Rattle.ethernet_arp.proofs.ByteLaws.{ether_brings_bytes}
use Rattle.ethernet_arp.proofs.laws.frames_bring_bytes.Goals as goal

pub returns : goal.returns
returns c = ether_brings_bytes
