use Rattle.dns_message.proofs.Prelude.{◌≡◌, ◌++◌, ◌∷◌, [], arith, ◌∙◌, ◌+◌, ◌-◌, sym, ap, length, length-drop, length-append, length-take}
use Rattle.dns_message.proofs.Prelude.{drop, take, append_assoc, append-nil, flat_map, take_rest, label_bytes, labels}
use Rattle.dns_message.proofs.DotLaws.{cut, uncut}
use Rattle.dns_message.proofs.message.put_labels.Goals as goal

pub loop-dot-preserved : goal.loop-dot-preserved
loop-dot-preserved c =
    let rest = c.loop-dot.rest.now in
    let dot = c.in-Some.dot in
    let trailing = drop (dot + 1) rest in
    let label = take dot rest in
    let same = take_rest rest (dot + 1) in
    record {
      text =
          ap (λ l. c.put_label.new.out.items ++ flat_map label_bytes (labels l)) same
          ∙ ap (λ l. l ++ flat_map label_bytes (labels trailing)) c.put_label.ensures
          ∙ append_assoc c.loop-dot.out.items (label_bytes label) (flat_map label_bytes (labels trailing))
          ∙ ap (λ l. c.loop-dot.out.items ++ flat_map label_bytes l) (sym (cut rest dot c.in-Some.ensures))
          ∙ c.loop-dot.invariant.text;
      room =
          omega (
            arith,
            ap (λ l. length l) same,
            ap (λ l. length l) c.put_label.ensures,
            length-append c.loop-dot.out.items (label_bytes label),
            length-drop (dot + 1) rest,
            length-take dot rest,
            c.in-Some.ensures.0.high,
            c.loop-dot.invariant.room,
          );
    }

pub returns-clause-text : goal.returns-clause-text
returns-clause-text c =
    let rest = c.loop-dot.rest.now in
    c.put_label-2.ensures ∙ ap (λ l. c.loop-dot.out.items ++ l) (sym (append-nil (label_bytes rest)))
    ∙ ap (λ l. c.loop-dot.out.items ++ flat_map label_bytes l) (sym (uncut rest c.in_default.ensures)) ∙ c.loop-dot.invariant.text
