-- Words computed from the definitions.
use Rattle.std.proofs.Common.{◌≡◌, true, false, [], ◌++◌, codes, replicate, refl}
use Rattle.protosocket.specs.Prelude.{after, fresh, delivered, part_taken}
use Rattle.protosocket.specs.declared.stops.Stops.TheVariants.{Space, SpaceOrLine}

-- a method ends at a space, and a line's end is part of it
method : delivered Space (codes "GET /") ≡ record { name = codes "GET"; over = false; query = false; done = true; stops = Space }
method = refl

method_over_lines : delivered Space (codes "GE\r\nT") ≡ record { name = codes "GE\r\nT"; over = false; query = false; done = false; stops = Space }
method_over_lines = refl

-- a path ends at a space, CR or LF, and its name at '?'
path : delivered SpaceOrLine (codes "/a?b?c HTTP/1.0\r\n") ≡ record { name = codes "/a"; over = false; query = true; done = true; stops = SpaceOrLine }
path = refl

old_request : delivered SpaceOrLine (codes "/a\r\n") ≡ record { name = codes "/a"; over = false; query = false; done = true; stops = SpaceOrLine }
old_request = refl

line_feed : part_taken (fresh SpaceOrLine) (codes "/a\nb") ≡ 3
line_feed = refl

nothing : delivered SpaceOrLine (codes " /a") ≡ record { name = []; over = false; query = false; done = true; stops = SpaceOrLine }
nothing = refl

-- 64 bytes are stored, and more than 64 are reported; what follows a '?' does not count
just_kept : delivered Space (replicate 64 65 ++ codes "?" ++ replicate 9 65)
    ≡ record { name = replicate 64 65; over = false; query = true; done = false; stops = Space }
just_kept = refl

one_too_many : delivered Space (replicate 65 65) ≡ record { name = replicate 64 65; over = true; query = false; done = false; stops = Space }
one_too_many = refl

-- a piece after the stop is left
left_alone : part_taken (after (fresh Space) (codes "GET ")) (codes "/") ≡ 0
left_alone = refl
