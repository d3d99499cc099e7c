-- A content type by the name is short.
-- [add: content-type] The type is short.
use Rattle.file_tree.proofs.Prelude.{ℕ, ◌≤◌, Bool, true, false, cond, List, length, lit≤, codes, nat_eq, ends_with, kind_by_name}

abbrev IsShort : List ℕ → Type 0
IsShort kind = length kind ≤ 24

short-either : (b : Bool) (x y : List ℕ) → IsShort x → IsShort y → IsShort (cond b x y)
short-either true x y p q = p
short-either false x y p q = q

pub kind-short : (name : List ℕ) → length (kind_by_name name) ≤ 24
kind-short name =
    short-either (ends_with nat_eq name (codes ".html")) (codes "text/html") _ (lit≤ tt)
    (short-either (ends_with nat_eq name (codes ".shtml")) (codes "text/html") _ (lit≤ tt)
    (short-either (ends_with nat_eq name (codes ".txt")) (codes "text/plain") _ (lit≤ tt)
    (short-either (ends_with nat_eq name (codes ".css")) (codes "text/css") _ (lit≤ tt)
    (short-either (ends_with nat_eq name (codes ".png")) (codes "image/png") _ (lit≤ tt)
    (short-either (ends_with nat_eq name (codes ".gif")) (codes "image/gif") _ (lit≤ tt)
    (short-either (ends_with nat_eq name (codes ".jpg")) (codes "image/jpeg") (codes "application/octet-stream") (lit≤ tt) (lit≤ tt)))))))
