use Rattle.link_replay.proofs.Prelude.{◌≡◌, ◌∙◌, datagram_line, line_of_datagram}
use Rattle.link_replay.proofs.Transmission.{wrote_by}
use Rattle.link_replay.proofs.Shown.{some_shown}
use Rattle.link_replay.proofs.Representing.{datagram_represents}
use Rattle.link_replay.proofs.report.datagrams.write_datagram.Goals as goal

pub returns-clause-wrote : goal.returns-clause-wrote
returns-clause-wrote g c = λ w e all same represented home st read by.
    let sent = c.args.sent.now in
    let kind = c.kind_of.result in
    let text = datagram_line c.args.number sent.tick sent.who kind sent.again in
    let made : c.datagram_line-line.result ≡ text = c.datagram_line-line.ensures in
    let line : c.bytes.result.now ≡ text = ◌∙◌ {b = c.datagram_line-line.result} {c = text} c.bytes.ensures made in
    wrote_by _ _ c.write_word.result text (line_of_datagram c.args.number e)
    (datagram_represents w c.args.number sent e kind st (c.kind_of.ensures w e all same represented home st read by))
    (wrote_by _ _ c.write_word.result c.bytes.result.now text line c.write_word.ensures.wrote)

pub returns-clause-some : goal.returns-clause-some
returns-clause-some g c = some_shown _ _ c.bytes.result.now c.write_word.result c.write_word.ensures.wrote
