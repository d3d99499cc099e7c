-- Requests worked by hand: what each names.
use Rattle.std.specs.Prelude.{◌≡◌, ℕ, ◌+◌, List, [], ◌∷◌, ◌++◌, codes, map, replicate, take, length}
use Rattle.std.specs.List.{range_with_len}
use Rattle.web_pages.specs.Requests.{Wanted, wanted}
use Rattle.web_pages.specs.Requests.Wanted.{NotYet, Refused, Name}

-- what each prefix of a request names, the empty one first
abbrev pub wanted_by_prefixs : List ℕ → List Wanted
wanted_by_prefixs request = map (λ count. wanted (take count request)) (range_with_len 0 (length request + 1))

pub record AreWorkedRequests : Type 0 where
  -- a word that has no end yet
  pub empty : wanted [] ≡ NotYet
  pub method_open : wanted (codes "GET") ≡ NotYet
  pub other_method_open : wanted (codes "POST") ≡ NotYet
  pub target_missing : wanted (codes "GET ") ≡ NotYet
  pub target_open : wanted (codes "GET /a.html") ≡ NotYet
  pub query_open : wanted (codes "GET /?a=b") ≡ NotYet
  -- only a space ends the method
  pub method_over_lines : wanted (codes "GET\r\n") ≡ NotYet
  pub line_in_method : wanted (codes "GET\n/ ") ≡ Refused
  -- a method other than GET is refused at its end
  pub other_method : wanted (codes "POST ") ≡ Refused
  pub lower_case : wanted (codes "get / HTTP/1.0\r\n") ≡ Refused
  pub shorter_method : wanted (codes "GE / ") ≡ Refused
  pub longer_method : wanted (codes "GETS / ") ≡ Refused
  pub query_in_method : wanted (codes "GET?a / ") ≡ Refused
  pub no_method : wanted (codes " GET / ") ≡ Refused
  -- a target that does not begin with a slash
  pub no_target : wanted (codes "GET \r\n") ≡ Refused
  pub two_spaces : wanted (codes "GET  / ") ≡ Refused
  pub no_slash : wanted (codes "GET x\n") ≡ Refused
  pub query_alone : wanted (codes "GET ?a=b ") ≡ Refused
  pub slash_later : wanted (codes "GET http://a/ HTTP/1.0\r\n") ≡ Refused
  -- a target ends at a space, CR or LF
  pub at_space : wanted (codes "GET /a.html HTTP/1.0\r\n") ≡ Name (codes "/a.html")
  pub at_cr : wanted (codes "GET /a.html\r\n") ≡ Name (codes "/a.html")
  pub at_lf : wanted (codes "GET /a.html\n") ≡ Name (codes "/a.html")
  -- the bytes before its first '?' are the name, and only `/` is short for `/index.html`
  pub query : wanted (codes "GET /a.html?b=c HTTP/1.0\r\n") ≡ Name (codes "/a.html")
  pub two_marks : wanted (codes "GET /a?b?c ") ≡ Name (codes "/a")
  pub short : wanted (codes "GET / HTTP/1.0\r\n") ≡ Name (codes "/index.html")
  pub short_query : wanted (codes "GET /?a=b\n") ≡ Name (codes "/index.html")
  pub no_short : wanted (codes "GET // ") ≡ Name (codes "//")
  -- a name may be longer than that of any file
  pub long_name : wanted (codes "GET /" ++ replicate 199 113 ++ 10 ∷ []) ≡ Name (codes "/" ++ replicate 199 113)
  -- every prefix of a request: a decision stays, whatever follows
  pub prefixs : wanted_by_prefixs (codes "GET /a b\r\nPOST ") ≡ replicate 7 NotYet ++ replicate 9 (Name (codes "/a"))
  pub refused_prefixs : wanted_by_prefixs (codes "PUT GET / ") ≡ replicate 4 NotYet ++ replicate 7 Refused
  pub refused_target_prefixs : wanted_by_prefixs (codes "GET x /") ≡ replicate 6 NotYet ++ replicate 2 Refused
