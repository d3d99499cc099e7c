use Rattle.uip_slip.proofs.Prelude.{◌≡◌, ◌++◌, ◌∷◌, [], ◌∙◌, refl, sym, ap, arith, length, append-nil, length-append, escaped, slip_text}
use Rattle.uip_slip.proofs.Prelude.{sink_view, Appends-none, Appends-then, appends_by, writes_broken, writes_by, writes_then}
use Rattle.uip_slip.proofs.TextLaws.{gathered, text_parts, split_pieces, whole_text, escaped-bound}
use Rattle.uip_slip.proofs.encoder.encode_over.Goals as goal

pub returns-in_err-write_whole : goal.returns-in_err-write_whole
returns-in_err-write_whole g c =
    let inv = c.loop-rest.invariant in
    let part = c.split_at.result.0.now in
    let others = c.split_at.result.1.now in
    let text = c.put_escaped.new.self in
    let pieces = split_pieces c.args.datagram.now inv.prefix c.loop-rest.rest.now part others 1500 inv.pieces c.split_at.ensures.front
    c.split_at.ensures.back in
    let made : inv.sent ++ text ≡ 192 ∷ escaped (inv.prefix ++ part) = gathered inv.sent c.loop-rest.text text inv.prefix part inv.made c.put_escaped.ensures in
    let whole : (inv.sent ++ text) ++ (escaped others ++ 192 ∷ []) ≡ slip_text c.args.datagram.now =
    ap (λ l. l ++ (escaped others ++ 192 ∷ [])) made ∙ text_parts c.args.datagram.now inv.prefix part others pieces in
    writes_broken _ c.from_residual.ensures.0 c.in_err-write_whole.field-0.0 (sink_view g.K.Sink c.args.sink.now) (sink_view g.K.Sink c.loop-rest.sink)
    (sink_view g.K.Sink c.write_whole.new.self) inv.sent text (escaped others ++ 192 ∷ []) (slip_text c.args.datagram.now) whole inv.written inv.same
    (writes_by _ (sink_view g.K.Sink c.loop-rest.sink) (sink_view g.K.Sink c.write_whole.new.self) c.bytes.result.now text (sym c.bytes.ensures)
    c.in_err-write_whole.ensures)

pub loop-rest-init : goal.loop-rest-init
loop-rest-init g c =
    let made : c.push.new.self ≡ 192 ∷ [] = c.push.ensures ∙ ap (λ l. l ++ 192 ∷ []) c.clear.ensures in
    record {
      prefix = [];
      sent = [];
      pieces = refl;
      made = made;
      room = (let one : length c.push.new.self ≡ 1 = ap (λ l. length l) made in omega (arith, one));
      written = Appends-none _;
      same = refl;
    }

pub loop-rest-preserved : goal.loop-rest-preserved
loop-rest-preserved g c =
    let inv = c.loop-rest.invariant in
    let part = c.split_at.result.0.now in
    let text = c.put_escaped.new.self in
    let reported = c.in_ok-write_whole.ensures in
    record {
      prefix = inv.prefix ++ part;
      sent = inv.sent ++ text;
      pieces = split_pieces c.args.datagram.now inv.prefix c.loop-rest.rest.now part c.split_at.result.1.now 1500 inv.pieces
          c.split_at.ensures.front c.split_at.ensures.back;
      made = ap (λ l. (inv.sent ++ text) ++ l) c.clear-in-loop-rest.ensures ∙ append-nil (inv.sent ++ text)
          ∙ gathered inv.sent c.loop-rest.text text inv.prefix part inv.made c.put_escaped.ensures;
      room = (let none : length c.clear-in-loop-rest.new.self ≡ 0 = ap (λ l. length l) c.clear-in-loop-rest.ensures in omega (arith, none));
      written = Appends-then _ _ _ inv.sent text inv.written (appends_by _ _ _ text (sym c.bytes.ensures) reported.whole);
      same = reported.cause.same ∙ inv.same;
    }

pub push-requires-2 : goal.push-requires-2
push-requires-2 g c =
    let rest = c.loop-rest.rest.now in
    let size : length c.put_escaped-2.new.self ≡ _ = ap (λ l. length l) c.put_escaped-2.ensures ∙ length-append c.loop-rest.text (escaped rest) in
    omega (arith, size, escaped-bound rest, c.loop-rest.invariant.room, c.loop-rest-test.false)

pub returns : goal.returns
returns g c =
    let inv = c.loop-rest.invariant in
    let full = c.push-2.new.self in
    let whole = whole_text c.args.datagram.now inv.sent c.loop-rest.text c.put_escaped-2.new.self full inv.prefix c.loop-rest.rest.now inv.made
    c.put_escaped-2.ensures c.push-2.ensures inv.pieces in
    writes_by _ _ _ (inv.sent ++ full) _ (sym whole)
    (writes_then _ (sink_view g.K.Sink c.args.sink.now) (sink_view g.K.Sink c.loop-rest.sink) (sink_view g.K.Sink c.write_whole-2.new.self)
    inv.sent full inv.written inv.same
    (writes_by _ _ _ c.bytes-2.result.now full (sym c.bytes-2.ensures) c.write_whole-2.ensures))
