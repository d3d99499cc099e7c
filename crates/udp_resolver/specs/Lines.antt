-- What is reported of the names: a line for each, with its fate.
use Rattle.std.specs.Prelude.{◌++◌, codes, decimal, flat_map, List, ℕ}
use Rattle.uip_wire.specs.Prelude.{quad_text}
use Rattle.dns_message.specs.declared.answer.Answer.TheVariants.{Address, Code, NoAddress}
use Rattle.udp_resolver.specs.Fates.{Question, fate_of}
use Rattle.udp_resolver.specs.LineEvents.{LineEvent}
use Rattle.udp_resolver.specs.declared.fate.Fate.{Fate}
use Rattle.udp_resolver.specs.declared.fate.Fate.TheVariants.{Answered, Open, Timeout}

abbrev pub fate_text : Fate → List ℕ
fate_text (Answered (Address address)) = quad_text address.0
fate_text (Answered NoAddress) = codes "none"
fate_text (Answered (Code code)) = codes "code " ++ decimal code
fate_text Timeout = codes "timeout"
fate_text Open = codes "open"

-- The name, a space, its fate, and a line feed.
abbrev pub line_of : List ℕ → Fate → List ℕ
line_of text fate = text ++ codes " " ++ fate_text fate ++ codes "\n"

-- The lines of questions, in order.
abbrev pub lines : List Question → List LineEvent → List ℕ
lines asked happened = flat_map (λ q. line_of q.text (fate_of happened q)) asked
