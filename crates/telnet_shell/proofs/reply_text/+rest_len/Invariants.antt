use Rattle.telnet_shell.proofs.Prelude.{length}
use Rattle.telnet_shell.proofs.reply_text.+rest_len.Given as goal

abbrev pub decreases-rest_len : goal.decreases-rest_len
decreases-rest_len l = length l.queue.now
