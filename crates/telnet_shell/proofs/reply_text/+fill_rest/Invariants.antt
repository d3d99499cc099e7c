use Rattle.telnet_shell.proofs.Prelude.{length}
use Rattle.telnet_shell.proofs.reply_text.+fill_rest.Given as goal

abbrev pub decreases-fill_rest : goal.decreases-fill_rest
decreases-fill_rest l = length l.queue.now
