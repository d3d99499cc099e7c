-- Pages worked by hand: their bytes, with the snapshots of a node at which nothing has happened yet.
-- [add: counter] The number of zeros.
use Rattle.std.specs.Prelude.{◌≡◌, ℕ, true, false, List, [], ◌∷◌, ◌++◌, codes, length, replicate}
use Rattle.site_image.specs.Prelude.{File}
use Rattle.app_events.specs.Prelude.{Snapshot}
use Rattle.web_pages.specs.Pages.{page, is_page_whole}
use Rattle.web_pages.specs.ZeroPages.{zero_page}

-- a file without a content type of its own
abbrev pub file : List ℕ → List ℕ → File
file name content = record { name = name; kind = []; content = content }

abbrev pub ok : List ℕ
ok = codes "HTTP/1.0 200 OK\r\nServer: uIP/1.0\r\nConnection: close\r\n"

abbrev pub not_found : List ℕ
not_found = codes "HTTP/1.0 404 Not found\r\nServer: uIP/1.0\r\nConnection: close\r\n"

abbrev pub as_html : List ℕ
as_html = codes "Content-type: text/html\r\n\r\n"

-- one page, `hello` and LF
abbrev pub hello_site : List File
hello_site = file (codes "/index.html") (codes "hello\n") ∷ []

-- a script with a lone '%', an include inside a line, an unknown function, and a call without a last LF
abbrev pub corner_site : List File
corner_site = file (codes "/a.shtml") (codes "x%y%!:/e.txt\n%! nosuch\nz%! ticks") ∷ file (codes "/e.txt") [] ∷ []

-- an include of text that looks like a directive
abbrev pub include_site : List File
include_site = file (codes "/b.shtml") (codes "a%!:/c.txt\nb") ∷ file (codes "/c.txt") (codes "%!x") ∷ []

-- a script that shows its own hits
abbrev pub hits_site : List File
hits_site = file (codes "/h.shtml") (codes "%! file-stats /h.shtml\n") ∷ []

-- a script that shows the hits of a file that does not exist
abbrev pub other_site : List File
other_site = file (codes "/o.shtml") (codes "%! file-stats /nosuch") ∷ []

-- a page of its own if no file has the name
abbrev pub missing_site : List File
missing_site = file (codes "/404.html") (codes "gone") ∷ []

-- a type of its own
abbrev pub typed_site : List File
typed_site = record { name = codes "/f"; kind = codes "text/x"; content = codes "y" } ∷ []

-- calls that each take one snapshot, except the unknown one
abbrev pub calls_site : List File
calls_site = file (codes "/s.shtml") (codes "a%! ticks\nb%! nosuch\nc%! ticks\nd") ∷ []

-- a snapshot with a hit count for the first file, and a tick count
abbrev pub snapshot_at : ℕ → ℕ → Snapshot
snapshot_at hits ticks = record { numbers = hits ∷ []; now = record { ticks = ticks; net = replicate 20 0; rows = [] } }

abbrev pub get : List ℕ → List ℕ
get target = codes "GET " ++ target ++ codes " HTTP/1.0\r\n\r\n"

pub record AreWorkedPages : Type 0 where
  pub hello : page hello_site (get (codes "/")) [] ≡ ok ++ as_html ++ codes "hello\n"
  pub hello_length : length (zero_page hello_site (codes "/")) ≡ 86
  pub hello_whole : is_page_whole hello_site (get (codes "/")) [] ≡ true
  pub query : zero_page hello_site (codes "/?a=b") ≡ ok ++ as_html ++ codes "hello\n"
  pub not_yet : page hello_site (codes "GET /") [] ≡ []
  pub not_yet_open : is_page_whole hello_site (codes "GET /") [] ≡ false
  -- a request that is refused has the empty page, and it is complete
  pub refused : zero_page hello_site (codes "x") ≡ []
  pub refused_whole : is_page_whole hello_site (get (codes "x")) [] ≡ true
  -- no file has the name
  pub missing : zero_page hello_site (codes "/nosuch") ≡ not_found ++ as_html ++ codes "not found\n"
  pub missing_length : length (zero_page hello_site (codes "/nosuch")) ≡ 97
  pub long_name : zero_page hello_site (codes "/" ++ replicate 199 113) ≡ not_found ++ as_html ++ codes "not found\n"
  pub own_missing : zero_page missing_site (codes "/nosuch") ≡ not_found ++ as_html ++ codes "gone"
  pub own_missing_found : zero_page missing_site (codes "/404.html") ≡ ok ++ as_html ++ codes "gone"
  -- scripts
  pub corners : zero_page corner_site (codes "/a.shtml") ≡ ok ++ as_html ++ codes "x%yz         0"
  pub corners_length : length (zero_page corner_site (codes "/a.shtml")) ≡ 94
  pub include : zero_page include_site (codes "/b.shtml") ≡ ok ++ as_html ++ codes "a%!xb"
  pub include_length : length (zero_page include_site (codes "/b.shtml")) ≡ 85
  pub raw : zero_page include_site (codes "/c.txt") ≡ ok ++ codes "Content-type: text/plain\r\n\r\n%!x"
  pub hits : zero_page hits_site (codes "/h.shtml") ≡ ok ++ as_html ++ codes "         0"
  pub hits_length : length (zero_page hits_site (codes "/h.shtml")) ≡ 90
  pub second_hit : page hits_site (get (codes "/h.shtml")) (snapshot_at 2 7 ∷ []) ≡ ok ++ as_html ++ codes "         2"
  pub no_hits : page other_site (get (codes "/o.shtml")) (snapshot_at 2 7 ∷ []) ≡ ok ++ as_html ++ codes "         0"
  pub own_type : zero_page typed_site (codes "/f") ≡ ok ++ codes "Content-type: text/x\r\n\r\ny"
  -- the page reaches as far as its snapshots; a call of an unknown function takes none
  pub no_capture : page calls_site (get (codes "/s.shtml")) [] ≡ ok ++ as_html ++ codes "a"
  pub one_capture : page calls_site (get (codes "/s.shtml")) (snapshot_at 0 7 ∷ []) ≡ ok ++ as_html ++ codes "a         7bc"
  pub one_capture_open : is_page_whole calls_site (get (codes "/s.shtml")) (snapshot_at 0 7 ∷ []) ≡ false
  pub two_captures : page calls_site (get (codes "/s.shtml")) (snapshot_at 0 7 ∷ snapshot_at 0 12 ∷ [])
      ≡ ok ++ as_html ++ codes "a         7bc        12d"
  pub two_captures_whole : is_page_whole calls_site (get (codes "/s.shtml")) (snapshot_at 0 7 ∷ snapshot_at 0 12 ∷ []) ≡ true
