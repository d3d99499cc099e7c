-- The guarantee of a trace, in the numbers of the wire: all its parts.
use Rattle.node_laws.specs.Traces.{exchanges_with}
use Rattle.guard_laws.specs.Shifted.{WireConforms}
use Rattle.guard_laws.proofs.Retries.{retries_on}
use Rattle.guard_laws.proofs.Wire.{all_echoed_on, asked_back, exchanges_are, incarnation_back, opens_back}

pub wire_conforms : WireConforms
wire_conforms model served shift is trace z = record {
  incarnations = λ p incarnation i.
      incarnation_back (model p.own_port.0) (shift p) (exchanges_with p trace) _ incarnation (exchanges_are shift is p trace) (z.incarnations p) i;
  asked = λ p. asked_back (shift p) (exchanges_with p trace) _ (exchanges_are shift is p trace) (z.asked p);
  ports = λ p. opens_back served p (shift p) (exchanges_with p trace) _ (exchanges_are shift is p trace) (z.ports p);
  echoes = all_echoed_on shift trace z.echoes;
  retries = retries_on shift is trace z.retries;
}
