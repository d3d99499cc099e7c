-- The texts about the program itself.
use Rattle.std.specs.Prelude.{◌++◌, ◌∷◌, [], codes, flat_map, List, ℕ}
use Rattle.uip_edge.specs.Prelude.{SinkView, WritesEnd}
use Rattle.uipd.specs.declared.status.Status.{Status}
use Rattle.uipd.specs.declared.status.Status.TheVariants as status

-- what `--help` writes
abbrev pub help_text : List ℕ
help_text =
    codes "uipd: ping and web pages over a serial line (SLIP), from one small stack\n"
    ++ codes "\n"
    ++ codes "  uipd serve SITE ADDR [pace K] [items N] [tty]      serve the line on standard input and output\n"
    ++ codes "  uipd ether SITE ADDR MAC [pace K] [items N] [tty]  the same over Ethernet frames\n"
    ++ codes "  uipd desk SITE ADDR [pace K] [items N] [tty]       serve pages, and a shell at port 23\n"
    ++ codes "  uipd check SITE                                    list an image's files, or its first fault\n"
    ++ codes "  uipd pack NAME=FILE ..                             write the image of files\n"
    ++ codes "  uipd upgrade SITE [NAME=TYPE ..]                   write the image with content types\n"
    ++ codes "  uipd page SITE TARGET                              write a page as a fresh node serves it\n"
    ++ codes "  uipd replay SITE SCHEDULE [show]                   play a schedule with clients, and report\n"
    ++ codes "  uipd load SITE SEED CLIENTS                        play the schedule that a number makes\n"
    ++ codes "  uipd dump [items N] [tty]                          write a line of text for each frame\n"
    ++ codes "  uipd pcap [items N] [tty]                          write a capture file of the line\n"
    ++ codes "  uipd slip [items N]                                write the serial line of a capture file\n"
    ++ codes "  uipd resolve OWN SERVER ID [items N] NAME .. [tty] ask a DNS server for names over the line\n"
    ++ codes "  uipd --help                                        write this\n"
    ++ codes "  uipd --version                                     write the version\n"
    ++ codes "\n"
    ++ codes "SITE is the file of an image, or - for a site without files. ADDR is the address of the node.\n"
    ++ codes "pace K: each K-th byte is a tick; tty: so is a read of nothing; items N: stop behind N of both.\n"
    ++ codes "\n"
    ++ codes "Exit status: 0 done, 1 no such words, 2 a file failed, 3 the line failed, 4 the output failed,\n"
    ++ codes "5 N items were taken, 6 a bad image, 7 a bad schedule, 8 out of memory, 9 a bad capture file.\n"
    ++ codes "\n"
    ++ codes "Read more: man uipd, README.md, docs/FORMATS.md, docs/LIMITS.md\n"

-- what `--version` writes
abbrev pub version_text : List ℕ
version_text = codes "uipd 1.1\n"

-- The whole text was written, or a prefix of it if the output failed.
abbrev pub Shows : List ℕ → SinkView → SinkView → Status → Type 0
Shows text old new result = WritesEnd status.Done status.WriteFault old new text result
