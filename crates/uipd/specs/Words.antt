-- The words of the command line.
-- [add: application] Application: its words.
-- [add: line-kind] Kind of line: its words.
use Rattle.std.specs.Prelude.{◌-◌, ◌^◌, ◌==◌, ◌&&◌, if◌then◌else◌, [], Bool, bytes_eq, false, List, nat_le, nat_lt, true, ℕ}
use Rattle.std.specs.Prelude.{◌∷◌, Option, None, Some, option_map, codes, length, map, slice_get, string_bytes}
use Rattle.std.specs.Option.{option_map_or}
use Rattle.std.specs.List.{list_all, list_any, before_first, after_first}
use Rattle.std.specs.Str.Parse.{digits_value}
use Rattle.uip_wire.specs.Prelude.{numeral, ◌>>=◌, quad_of}
use Rattle.ethernet_arp.specs.Prelude.{mac_of_text}
use Rattle.site_image.specs.Prelude.{is_kind}
use Rattle.file_tree.specs.Prelude.{KindContent}
use Rattle.site_commands.specs.Prelude.{NamedContent}
use Rattle.uipd.specs.Help.{help_text, version_text}
use Rattle.uipd.specs.declared.words.Command.{Command}
use Rattle.uipd.specs.declared.words.Command.TheVariants.{Serve, Check, Page, Pack, Upgrade, Replay, Load, Dump, Pcap, Slip, Show}
use Rattle.uipd.specs.declared.words.Application.{Application}
use Rattle.uipd.specs.declared.words.Application.TheVariants.{Web, Desk}
use Rattle.uipd.specs.declared.words.Limits.{Limits}
use Rattle.uipd.specs.declared.words.LineKind.{LineKind}
use Rattle.uipd.specs.declared.words.LineKind.TheVariants.{Ethernet, Serial}
use Rattle.uipd.specs.declared.words.ServedLine.{ServedLine}

-- The task of the words. A line is served with a site, or a site is checked, or one of its pages is written. An image is packed or
-- upgraded. A schedule is replayed, shown or not, or one that a seed makes for a number of clients. A line is dumped or captured, or made
-- from a capture. A text about the program is shown.
-- [add: command] A task with its values, `task_meant` and `task_of`.
pub data Task : Type 0 where
  Serves : (site : List ℕ) (line : ServedLine) → Task
  Checks : (site : List ℕ) → Task
  Pages : (site target : List ℕ) → Task
  Packs : (files : List NamedContent) → Task
  Upgrades : (site : List ℕ) (kinds : List KindContent) → Task
  Replays : (site schedule : List ℕ) (show : Bool) → Task
  Loads : (site : List ℕ) (seed clients : ℕ) → Task
  Dumps : (items : ℕ) → Task
  Captures : (items : ℕ) → Task
  PlaysBack : (items : ℕ) → Task
  ShowsText : (text : List ℕ) → Task

-- a word of two parts, split at its first `=`
abbrev pub is_equals : ℕ → Bool
is_equals b = b == 61

abbrev pub has_parts : List ℕ → Bool
has_parts word = list_any is_equals word

abbrev pub prefix_slice : List ℕ → List ℕ
prefix_slice word = before_first is_equals word

abbrev pub back_part : List ℕ → List ℕ
back_part word = after_first is_equals word

-- `NAME=FILE`
abbrev pub named_file : List ℕ → NamedContent
named_file word = record { name = prefix_slice word; file = back_part word }

-- `NAME=TYPE`, where TYPE is a content type that is not empty
abbrev pub is_kind_word : List ℕ → Bool
is_kind_word word = has_parts word && nat_lt 0 (length (back_part word)) && is_kind (back_part word)

abbrev pub kind_word : List ℕ → KindContent
kind_word word = record { name = prefix_slice word; kind = back_part word }

-- the task of a command of the code
abbrev pub task_meant : Command → Task
task_meant (Serve site line) = Serves site.now line
task_meant (Check site) = Checks site.now
task_meant (Pack words) = Packs (map named_file (map string_bytes words.now))
task_meant (Upgrade site words) = Upgrades site.now (map kind_word (map string_bytes words.now))
task_meant (Page site target) = Pages site.now target.now
task_meant (Replay site schedule show) = Replays site.now schedule.now show
task_meant (Load site seed clients) = Loads site.now seed clients
task_meant (Dump items) = Dumps items
task_meant (Pcap items) = Captures items
task_meant (Slip items) = PlaysBack items
task_meant (Show text) = ShowsText text.now

-- the greatest number of items, if the words state none
abbrev pub all_items : ℕ
all_items = 2 ^ 64 - 1

-- The last word is `tty`, which defines what an empty read means.
abbrev pub ends_in_tty : List (List ℕ) → Bool
ends_in_tty words = option_map_or (λ word. bytes_eq word (codes "tty")) (slice_get words (length words - 1)) false

-- no more words, or only `tty`, which defines what an empty read means
abbrev pub ends_here : List (List ℕ) → Bool
ends_here [] = true
ends_here (word ∷ []) = bytes_eq word (codes "tty")
ends_here words = false

-- optionally this word and a number after it, with a default; then further words
abbrev pub optionally : {X : Type 0} → List ℕ → ℕ → (ℕ → List (List ℕ) → Option X) → List (List ℕ) → Option X
optionally name otherwise further (word ∷ number ∷ words) =
    if bytes_eq word name then (numeral number >>= λ n. further n words) else further otherwise (word ∷ number ∷ words)
optionally name otherwise further words = further otherwise words

-- a pace and a number of items; no further words except `tty`
abbrev pub limited : ℕ → ℕ → List (List ℕ) → Option Limits
limited pace items words = if ends_here words then Some (record { pace = pace; items = items }) else None

-- after the pace: optionally `items N`, then the end
abbrev pub limits_at : ℕ → List (List ℕ) → Option Limits
limits_at pace words = optionally (codes "items") all_items (limited pace) words

-- optionally `pace K`, which is 0 by default; then the words after the pace
abbrev pub limits_of : List (List ℕ) → Option Limits
limits_of words = optionally (codes "pace") 0 limits_at words

-- `SITE ADDR`, and further words: over a serial line
abbrev pub serve_words : Application → List (List ℕ) → Option Task
serve_words application (site ∷ address ∷ words) = do
  own ← quad_of address
  limits ← limits_of words
  Some (Serves site (record { own = record { 0 = own }; kind = Serial; application = application; limits = limits }))
serve_words application words = None

-- `SITE ADDR MAC`, and further words: over Ethernet frames
abbrev pub ether_words : List (List ℕ) → Option Task
ether_words (site ∷ address ∷ mac ∷ words) = do
  own ← quad_of address
  mac ← mac_of_text mac
  limits ← limits_of words
  Some (Serves site (record { own = record { 0 = own }; kind = Ethernet (record { 0 = mac }); application = Web; limits = limits }))
ether_words words = None

-- `SITE`
abbrev pub check_words : List (List ℕ) → Option Task
check_words (site ∷ []) = Some (Checks site)
check_words words = None

-- `NAME=FILE ..`, of which there is at least one
abbrev pub pack_words : List (List ℕ) → Option Task
pack_words words = if nat_lt 0 (length words) && list_all has_parts words then Some (Packs (map named_file words)) else None

-- `SITE NAME=TYPE ..`
abbrev pub upgrade_words : List (List ℕ) → Option Task
upgrade_words [] = None
upgrade_words (site ∷ words) = if list_all is_kind_word words then Some (Upgrades site (map kind_word words)) else None

-- `SITE TARGET`
abbrev pub page_words : List (List ℕ) → Option Task
page_words (site ∷ target ∷ []) = Some (Pages site target)
page_words words = None

-- `SITE SCHEDULE`, optionally `show`
abbrev pub replay_words : List (List ℕ) → Option Task
replay_words (site ∷ schedule ∷ []) = Some (Replays site schedule false)
replay_words (site ∷ schedule ∷ word ∷ []) = if bytes_eq word (codes "show") then Some (Replays site schedule true) else None
replay_words words = None

-- a number within a range
abbrev pub number_within : ℕ → ℕ → List ℕ → Option ℕ
number_within low high word = numeral word >>= λ n. if nat_le low n && nat_le n high then Some n else None

-- `SITE SEED CLIENTS`, with 1 to 64 clients
abbrev pub load_words : List (List ℕ) → Option Task
load_words (site ∷ seed ∷ clients ∷ []) = do
  seed ← numeral seed
  clients ← number_within 1 64 clients
  Some (Loads site seed clients)
load_words words = None

-- optionally `items N`, then optionally `tty`
abbrev pub items_named : List (List ℕ) → Option ℕ
items_named words = option_map (λ limits. limits.items) (limits_at 0 words)

-- a capture is turned into a line again; no further words
abbrev pub plays_back : ℕ → List (List ℕ) → Option Task
plays_back items words = if length words == 0 then Some (PlaysBack items) else None

-- optionally `items N`
abbrev pub slip_words : List (List ℕ) → Option Task
slip_words words = optionally (codes "items") all_items plays_back words

-- no further words
abbrev pub shown : List ℕ → List (List ℕ) → Option Task
shown text [] = Some (ShowsText text)
shown text words = None

-- by the first word, which is the command
abbrev pub task_of : List (List ℕ) → Option Task
task_of [] = None
task_of (command ∷ words) =
    if bytes_eq command (codes "serve") then serve_words Web words
    else if bytes_eq command (codes "desk") then serve_words Desk words
    else if bytes_eq command (codes "ether") then ether_words words
    else if bytes_eq command (codes "check") then check_words words
    else if bytes_eq command (codes "pack") then pack_words words
    else if bytes_eq command (codes "upgrade") then upgrade_words words
    else if bytes_eq command (codes "page") then page_words words
    else if bytes_eq command (codes "replay") then replay_words words
    else if bytes_eq command (codes "load") then load_words words
    else if bytes_eq command (codes "dump") then option_map Dumps (items_named words)
    else if bytes_eq command (codes "pcap") then option_map Captures (items_named words)
    else if bytes_eq command (codes "slip") then slip_words words
    else if bytes_eq command (codes "--help") then shown help_text words
    else if bytes_eq command (codes "--version") then shown version_text words
    else None
