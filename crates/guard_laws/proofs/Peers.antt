-- The next segment of a cooperating peer is the next one of its connection.
use Rattle.std.proofs.Common.{sym, ap, ◌∙◌}
use Rattle.tcp_segment.specs.Prelude.{PlainSegment, has_ack, has_rst, has_syn}
use Rattle.guarded_node.proofs.Honest.{next_passes}
use Rattle.guard_laws.specs.Peers.{NextOfAskerPasses}

pub next_of_asker_passes : NextOfAskerPasses
next_of_asker_passes a x before c s text after next same =
    next_passes c s after.len after.early (record {
      syn = ap (λ (t : PlainSegment). has_syn t.flags) same ∙ next.syn;
      rst = ap (λ (t : PlainSegment). has_rst t.flags) same ∙ next.rst;
      acks = ap (λ (t : PlainSegment). has_ack t.flags) same ∙ next.acks;
      seq = ap (λ (t : PlainSegment). t.seq) same ∙ (next.seq ∙ sym after.rcv_nxt);
      ack = ap (λ (t : PlainSegment). t.ack) same ∙ (next.ack ∙ sym after.snd_nxt);
    })
