use Rattle.telnet_shell.proofs.Prelude.{length, drop, [], arith, length-drop, reply_with, transcript, two_parts}
use Rattle.telnet_shell.proofs.reply_text.fill_prefix.Goals as goal

pub returns : goal.returns
returns c =
    two_parts (drop c.args.at (reply_with c.args.prefix c.args.capture.now)) (transcript c.args.rest.now []) c.fill_reply_text.new.out
    c.fill_rest.new.out (length c.args.out.now) c.min-middle.result _ _
    (omega (arith, c.min-middle.ensures, c.reply_len.ensures.length, length-drop c.args.at (reply_with c.args.prefix c.args.capture.now)))
    c.split_at_mut-begun.ensures.front_len c.split_at_mut-begun.ensures.back_len c.fill_reply_text.ensures c.fill_rest.ensures
