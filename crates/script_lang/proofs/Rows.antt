-- Scripts worked by hand: what the definition gives for them.
use Rattle.script_lang.proofs.Prelude.{◌≡◌, [], ◌∷◌, ◌++◌, codes, refl, FileStats, NetStats, Ticks, Unknown, Text, Include, Call, pieces}

-- a lone `%`, an include inside a line, an unknown function, and a call without a last LF
corners : pieces (codes "x%y%!:/e.txt" ++ 10 ∷ codes "%! nosuch" ++ 10 ∷ codes "z%! ticks")
    ≡ record { piece = Text 0 3; next = 3 } ∷ record { piece = Include 6 6; next = 13 }
    ∷ record { piece = Call Unknown 0 0; next = 23 } ∷ record { piece = Text 23 1; next = 24 }
    ∷ record { piece = Call Ticks 0 0; next = 32 } ∷ []
corners = refl

-- an include between text
between : pieces (codes "a%!:/c.txt" ++ 10 ∷ codes "b")
    ≡ record { piece = Text 0 1; next = 1 } ∷ record { piece = Include 4 6; next = 11 } ∷ record { piece = Text 11 1; next = 12 } ∷ []
between = refl

-- a text run goes over lines, `%%!` begins at its second byte, one CR is no part of the words, and further words are ignored
words : pieces (codes "a" ++ 10 ∷ codes "b%%!  file-stats   /x y" ++ 13 ∷ 10 ∷ codes "%!" ++ 10 ∷ codes "%!:" ++ 10 ∷ [])
    ≡ record { piece = Text 0 4; next = 4 } ∷ record { piece = Call FileStats 21 2; next = 27 }
    ∷ record { piece = Call Unknown 0 0; next = 30 } ∷ record { piece = Include 0 0; next = 34 } ∷ []
words = refl

-- a `%!` inside a directive is none, and an empty script has no piece
inside : pieces (codes "%! net-stats %! ticks") ≡ record { piece = Call NetStats 13 2; next = 21 } ∷ []
inside = refl

empty : pieces [] ≡ []
empty = refl
