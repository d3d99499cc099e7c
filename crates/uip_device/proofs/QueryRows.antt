-- Requests worked by hand, and the text that each brings.
use Rattle.uip_device.proofs.Prelude.{◌≡◌, ◌++◌, codes, map, replicate, Option, Some, None, [], ◌∷◌, List, ℕ, refl, query_in}

-- a setting; at the root; no text; a space ends the text; 64 bytes
abbrev bringing : List (List ℕ)
bringing =
    codes "GET /set.shtml?lamp=1 HTTP/1.0\r\n" ∷ codes "GET /?a=1&b=%20 HTTP/1.0\r\n" ∷ codes "GET /set.shtml? HTTP/1.0\r\n"
    ∷ codes "GET /set.shtml?lamp= 1 HTTP/1.0\r\n" ∷ (codes "GET /a?" ++ replicate 64 120 ++ codes " ") ∷ []

abbrev texts : List (Option (List ℕ))
texts =
    Some (codes "lamp=1") ∷ Some (codes "a=1&b=%20") ∷ Some [] ∷ Some (codes "lamp=") ∷ Some (replicate 64 120) ∷ []

each_text : map query_in bringing ≡ texts
each_text = refl

-- no mark; a mark after the target; a target that has not ended; a byte that is not kept; two marks; another method; 65 bytes
abbrev silent : List (List ℕ)
silent =
    codes "GET /set.shtml HTTP/1.0\r\n" ∷ codes "GET /set.shtml HTTP/1.0\r\nReferer: /a?b=c\r\n" ∷ codes "GET /set.shtml?lamp=1"
    ∷ codes "GET /set.shtml?lamp='1' HTTP/1.0\r\n" ∷ codes "GET /set.shtml?a?b HTTP/1.0\r\n" ∷ codes "POST /set.shtml?lamp=1 HTTP/1.0\r\n"
    ∷ (codes "GET /a?" ++ replicate 65 120 ++ codes " ") ∷ []

no_text : map query_in silent ≡ replicate 7 None
no_text = refl
