-- Images worked by hand: what the definitions give for them.
use Rattle.site_image.proofs.Prelude.{◌≡◌, ℕ, List, [], ◌∷◌, ◌++◌, codes, take, map, Option, None, Some, Result, Ok, Err, refl, SiteError}
use Rattle.site_image.proofs.Prelude.{One, File, page_length, image, image_head, entries, scripts, read_image, fault}
use Rattle.site_image.specs.declared.site_error.SiteWhy.TheVariants as why

-- what is wrong with an image
abbrev fault_of : Result (List File) SiteError → Option SiteError
fault_of (Ok files) = None
fault_of (Err e) = Some e

first_fault : List ℕ → Option SiteError
unfolding image_head entries scripts read_image
first_fault bytes = fault_of (read_image bytes)

hello : File
hello = record { name = codes "/index.html"; kind = []; content = codes "hello" ++ 10 ∷ [] }

-- the image of one page
hello_image : List ℕ
hello_image = 0x55 ∷ 0x49 ∷ 0x50 ∷ 0x53 ∷ 0x49 ∷ 0x54 ∷ 0x45 ∷ 0x31 ∷ 0x00 ∷ 0x01 ∷ 0x0B ∷ 0x2F ∷ 0x69 ∷ 0x6E ∷ 0x64 ∷ 0x65 ∷ 0x78
    ∷ 0x2E ∷ 0x68 ∷ 0x74 ∷ 0x6D ∷ 0x6C ∷ 0x00 ∷ 0x00 ∷ 0x00 ∷ 0x06 ∷ 0x68 ∷ 0x65 ∷ 0x6C ∷ 0x6C ∷ 0x6F ∷ 0x0A ∷ []

spelled : image One (hello ∷ []) ≡ hello_image
unfolding hello hello_image
spelled = refl

good : first_fault hello_image ≡ None
unfolding first_fault hello_image image_head entries scripts read_image
good = refl

-- cut at each length, it has the fault of the first part that is not whole
magic_cut : map (λ n. first_fault (take n hello_image)) (0 ∷ 1 ∷ 7 ∷ []) ≡ Some (fault why.Magic 0) ∷ Some (fault why.Magic 0) ∷ Some (fault why.Magic 0) ∷ []
unfolding first_fault hello_image image_head entries scripts read_image
magic_cut = refl

count_cut : map (λ n. first_fault (take n hello_image)) (8 ∷ 9 ∷ []) ≡ Some (fault why.Cut 0) ∷ Some (fault why.Cut 0) ∷ []
unfolding first_fault hello_image image_head entries scripts read_image
count_cut = refl

entry_cut : map (λ n. first_fault (take n hello_image)) (10 ∷ 11 ∷ 15 ∷ 21 ∷ 22 ∷ 25 ∷ 26 ∷ 31 ∷ [])
    ≡ Some (fault why.Cut 1) ∷ Some (fault why.Cut 1) ∷ Some (fault why.Cut 1) ∷ Some (fault why.Cut 1) ∷ Some (fault why.Cut 1)
    ∷ Some (fault why.Cut 1) ∷ Some (fault why.Cut 1) ∷ Some (fault why.Cut 1) ∷ []
unfolding first_fault hello_image image_head entries scripts read_image
entry_cut = refl

-- a byte too many, a count of 1025, a name of no byte, a byte of a name that is not allowed, a name twice
rest : first_fault (hello_image ++ 0x21 ∷ []) ≡ Some (fault why.Rest 0)
unfolding first_fault hello_image image_head entries scripts read_image
rest = refl

many : first_fault (codes "UIPSITE1" ++ 0x04 ∷ 0x01 ∷ []) ≡ Some (fault why.TooMany 0)
unfolding first_fault image_head entries scripts read_image
many = refl

no_name : first_fault (codes "UIPSITE1" ++ 0x00 ∷ 0x01 ∷ 0x00 ∷ []) ≡ Some (fault why.Name 1)
unfolding first_fault image_head entries scripts read_image
no_name = refl

query : first_fault (codes "UIPSITE1" ++ 0x00 ∷ 0x01 ∷ 0x02 ∷ 0x2F ∷ 0x3F ∷ []) ≡ Some (fault why.Name 1)
unfolding first_fault image_head entries scripts read_image
query = refl

same_name : first_fault (codes "UIPSITE1" ++ 0 ∷ 2 ∷ 2 ∷ codes "/x" ++ 0 ∷ 0 ∷ 0 ∷ 1 ∷ 0x31 ∷ 2 ∷ codes "/x" ++ 0 ∷ 0 ∷ 0 ∷ 1 ∷ 0x32 ∷ [])
    ≡ Some (fault why.Twice 2)
unfolding first_fault image_head entries scripts read_image
same_name = refl

-- a content type of 65 bytes, and an include that names no file
long_kind : first_fault (codes "UIPSITE2" ++ 0 ∷ 1 ∷ 2 ∷ codes "/x" ++ 65 ∷ codes "text/html") ≡ Some (fault why.Kind 1)
unfolding first_fault image_head entries scripts read_image
long_kind = refl

no_include : first_fault (codes "UIPSITE1" ++ 0 ∷ 1 ∷ 8 ∷ codes "/a.shtml" ++ 0 ∷ 0 ∷ 0 ∷ 6 ∷ codes "%!:/x" ++ 10 ∷ []) ≡ Some (fault why.Include 1)
unfolding first_fault image_head entries scripts read_image
no_include = refl

-- the greatest lengths of pages
plain_page : page_length (hello ∷ []) hello ≡ 86
unfolding hello
plain_page = refl

own_kind : page_length [] (record { name = codes "/index.html"; kind = codes "text/html; charset=utf-8"; content = codes "hello" ++ 10 ∷ [] }) ≡ 101
own_kind = refl

corners : File
corners = record { name = codes "/a.shtml"; kind = []; content = codes "x%y%!:/e.txt" ++ 10 ∷ codes "%! nosuch" ++ 10 ∷ codes "z%! ticks" }

nothing : File
nothing = record { name = codes "/e.txt"; kind = []; content = [] }

script_page : page_length (corners ∷ nothing ∷ []) corners ≡ 94
unfolding corners nothing
script_page = refl

empty_page : page_length (corners ∷ nothing ∷ []) nothing ≡ 81
unfolding corners nothing
empty_page = refl

-- an include is sent raw, also where it looks like a script
including : File
including = record { name = codes "/b.shtml"; kind = []; content = codes "a%!:/c.txt" ++ 10 ∷ codes "b" }

included : File
included = record { name = codes "/c.txt"; kind = []; content = codes "%!x" }

including_page : page_length (including ∷ included ∷ []) including ≡ 85
unfolding including included
including_page = refl
