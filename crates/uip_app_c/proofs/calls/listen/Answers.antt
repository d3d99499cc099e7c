use Rattle.uip_app_c.proofs.calls.listen.Goals as goal

-- the state of a connection does not depend on the open ports
pub invariant_of-device : goal.invariant_of-device
invariant_of-device c = record {
  size = c.device.invariant.size;
  kept = λ slot conn at.
      (let it = c.device.invariant.kept slot conn at in record { sound = record { numbers = it.sound.numbers; says = it.sound.says }; busy = it.busy });
}
