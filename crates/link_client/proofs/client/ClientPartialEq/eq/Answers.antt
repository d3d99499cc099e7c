-- Two clients are equal where all their fields are: the code compares the numbers first.
use Rattle.link_client.proofs.Prelude.{◌≡◌, ◌&&◌, Bool, true, false, refl, rules}
use Rattle.link_client.proofs.client.ClientPartialEq.eq.Goals as goal

in_order : (acked out window setup state fin rcv : Bool)
    → (((((acked && out) && window) && setup) && state) && fin) && rcv ≡ setup && (state && (acked && (out && (fin && (rcv && window)))))
in_order true true true true true true true = refl
in_order true true true true true true false = refl
in_order true true true true true false rcv = refl
in_order true true true true false fin rcv = refl
in_order true true true false state fin rcv = refl
in_order true true false true true true true = refl
in_order true true false true true true false = refl
in_order true true false true true false rcv = refl
in_order true true false true false fin rcv = refl
in_order true true false false state fin rcv = refl
in_order true false window true true fin rcv = refl
in_order true false window true false fin rcv = refl
in_order true false window false state fin rcv = refl
in_order false out window true true fin rcv = refl
in_order false out window true false fin rcv = refl
in_order false out window false state fin rcv = refl

pub returns : goal.returns
returns c = rw (
  c.and_eq-6.ensures,
  c.and_eq-5.ensures,
  c.and_eq-4.ensures,
  c.and_eq-3.ensures,
  c.and_eq-2.ensures,
  c.and_eq.ensures,
  c.eq.ensures,
) (search (in_order, rules))
