-- The files of an upgraded site that were appended so far, and the result of the whole.
use Rattle.file_tree.proofs.Prelude.{◌≡◌, ℕ, Bool, true, false, ◌+◌, ◌<◌, ◌≤◌, List, [], ◌∷◌, ◌++◌, length, get_or, take, Option, Some}
use Rattle.file_tree.proofs.Prelude.{None, Result, Ok, Err, refl, sym, ap, subst, ◌∙◌, append_assoc, arith, ⊤, All, IsTrue, slice_get}
use Rattle.file_tree.proofs.Prelude.{nat_lt, option_map, flat_map, w16, to_be_bytes, lt-ltb, le-ltb, ltb-true, length-append, length-map}
use Rattle.file_tree.proofs.Prelude.{get_or-map, take_more, take_all, append-nil, slice_get_within, get_or_from_slice_get, slice_get-map}
use Rattle.file_tree.proofs.Prelude.{same_Some, LONGEST_IMAGE, MOST_FILES, Place, SiteWhy, TooLong, SiteError, Two, File, is_kind, magic}
use Rattle.file_tree.proofs.Prelude.{entry, image, ◌>>=◌, refuse, scripts, read_image, files_in, image-again, scripts-sound, FileId}
use Rattle.file_tree.proofs.Prelude.{LoadFault, Shelf, Bad, NoMemory, Fails, IsOrder, IsIndex, AreWithin, name_of, name_at, id_at, IsBefore}
use Rattle.file_tree.proofs.Prelude.{AreGood, AreApart, KindContent, retyped, upgraded, second_image}
use Rattle.file_tree.proofs.SizeLemmas.{entries-more, entries-le, image-size}
use Rattle.file_tree.proofs.TableLemmas.{table-empty}
use Rattle.file_tree.proofs.GoodLemmas.{upgraded-good}

-- of the files, the first i were appended
pub record Upgrades (files : List File) (i : ℕ) (made : List ℕ) (places : List Place) : Type 0 where
  pub made_is : made ≡ (magic Two ++ to_be_bytes w16 (length files)) ++ flat_map (entry Two) (take i files)
  pub files_are : files_in made places ≡ take i files
  pub within : AreWithin made places
  pub room : length made ≤ LONGEST_IMAGE

pub upgrades-start : (words : List KindContent) (olds : List File) (made : List ℕ) (places : List Place)
    → made ≡ magic Two ++ to_be_bytes w16 (length olds) → places ≡ []
    → Upgrades (upgraded words olds) 0 made places
upgrades-start words olds made places is none = record {
  made_is = is ∙ ap (λ n. magic Two ++ to_be_bytes w16 n) (sym (length-map olds (retyped words)))
      ∙ sym (append-nil (magic Two ++ to_be_bytes w16 (length (upgraded words olds))));
  files_are = ap (files_in made) none;
  within = subst (AreWithin made) (sym none) (table-empty made).within;
  room = omega (arith, ap length is);
}

at-index : (files : List File) (i : ℕ) (file : File) → slice_get files i ≡ Some file → get_or files i file ≡ file
at-index files i file s = get_or_from_slice_get files i file file s

pub upgrades-more : (files : List File) (i : ℕ) (made grown : List ℕ) (places more : List Place) (file : File)
    → Upgrades files i made places → slice_get files i ≡ Some file
    → grown ≡ made ++ entry Two file → length grown ≤ LONGEST_IMAGE → files_in grown more ≡ files_in made places ++ file ∷ [] → AreWithin grown more
    → Upgrades files (i + 1) grown more
upgrades-more files i made grown places more file p s made_is room files_is within =
    let head = magic Two ++ to_be_bytes w16 (length files) in
    let flat = flat_map (entry Two) (take i files) in
    let lt = slice_get_within files i file s in
    let own = at-index files i file s in
    record {
      made_is = made_is ∙ ap (λ x. x ++ entry Two file) p.made_is ∙ append_assoc head flat (entry Two file)
          ∙ ap (λ x. head ++ x) (ap (λ f. flat ++ entry Two f) (sym own) ∙ sym (entries-more Two files i file lt));
      files_are = files_is ∙ ap (λ fs. fs ++ file ∷ []) p.files_are ∙ ap (λ f. take i files ++ f ∷ []) (sym own) ∙ sym (take_more files i file lt);
      within = within;
      room = room;
    }

refuse-more : (one other : Bool) (why : SiteWhy) (e : SiteError) → (one ≡ true → other ≡ true) → refuse one why ≡ Err e → refuse other why ≡ Err e
refuse-more true other why e more h = ap (λ b. refuse b why) (more refl) ∙ h
refuse-more false other why e more h = absurd cc

-- if an entry does not fit, the whole does not fit
pub upgrades-long : (files : List File) (i : ℕ) (made : List ℕ) (places : List Place) (file : File) (fault : LoadFault)
    → Upgrades files i made places → slice_get files i ≡ Some file
    → Fails fault (refuse (nat_lt LONGEST_IMAGE (length made + length (entry Two file))) TooLong)
    → Fails fault (refuse (nat_lt LONGEST_IMAGE (length (image Two files))) TooLong)
upgrades-long files i made places file NoMemory p s h = tt
upgrades-long files i made places file (Bad e) p s h =
    let head = magic Two ++ to_be_bytes w16 (length files) in
    let flat = flat_map (entry Two) (take i files) in
    let lt = slice_get_within files i file s in
    let so_far = ap length p.made_is ∙ length-append head flat in
    let ten : length head ≡ 10 = refl in
    let one = ap length (entries-more Two files i file lt ∙ ap (λ f. flat ++ entry Two f) (at-index files i file s)) ∙ length-append flat (entry Two file) in
    let all = entries-le Two files (i + 1) in
    let whole = image-size Two files in
    refuse-more (nat_lt LONGEST_IMAGE (length made + length (entry Two file))) (nat_lt LONGEST_IMAGE (length (image Two files))) TooLong e
    (λ t. lt-ltb LONGEST_IMAGE (length (image Two files)) (let history = ltb-true LONGEST_IMAGE (length made + length (entry Two file)) t in omega arith)) h
upgrades-long files i made places file Shelf p s h = absurd h

pub record Upgraded (files : List File) (made : List ℕ) (places : List Place) : Type 0 where
  pub made_is : made ≡ image Two files
  pub files_are : files_in made places ≡ files

pub upgrades-end : (words : List KindContent) (olds : List File) (i : ℕ) (made : List ℕ) (places : List Place)
    → Upgrades (upgraded words olds) i made places → length olds ≤ i
    → Upgraded (upgraded words olds) made places
upgrades-end words olds i made places p done =
    let files = upgraded words olds in
    let all : take i files ≡ files = take_all i files (omega (arith, length-map olds (retyped words))) in
    record {
      made_is = p.made_is ∙ append_assoc (magic Two) (to_be_bytes w16 (length files)) (flat_map (entry Two) (take i files))
          ∙ ap (λ fs. magic Two ++ (to_be_bytes w16 (length files) ++ flat_map (entry Two) fs)) all;
      files_are = p.files_are ∙ all;
    }

-- ---- the order of the names stays

new-name : (words : List KindContent) (files : List File) (id : ℕ) → id < length files → name_of (upgraded words files) id ≡ name_of files id
new-name words files id lt =
    let none : File = record { name = []; kind = []; content = [] } in
    ap (λ (f : File). f.name) (get_or-map (retyped words) files id none none lt)

order-upgraded : (words : List KindContent) (files : List File) (order : List FileId) → IsOrder files order → IsOrder (upgraded words files) order
order-upgraded words files order is =
    let counted : length (upgraded words files) ≡ length files = length-map files (retyped words) in
    record {
      count = is.count ∙ sym counted;
      ids = λ rank lt. omega (arith, is.ids rank lt, counted);
      each = λ id lt. is.each id (omega arith);
      rising = λ low high lt within.
          subst (λ n. IsBefore n (name_at (upgraded words files) order high)) (sym (new-name words files (id_at order low) (is.ids low (omega arith))))
          (subst (λ n. IsBefore (name_at files order low) n) (sym (new-name words files (id_at order high) (is.ids high within)))
          (is.rising low high lt within));
    }

pub table-upgraded : (words : List KindContent) (olds : List File) (order : List FileId) (made : List ℕ) (places : List Place)
    → IsOrder olds order → AreWithin made places
    → files_in made places ≡ upgraded words olds → IsIndex made places order
table-upgraded words olds order made places is within files_are = record {
  within = within;
  order_is = subst (λ fs. IsOrder fs order) (sym files_are) (order-upgraded words olds order is);
}

-- ---- the whole

abbrev rest : List File → Result (List ℕ) SiteError
rest files = scripts files 0 files >>= λ _. Ok (image Two files)

pub second-long : (files : List File) (e : SiteError) → refuse (nat_lt LONGEST_IMAGE (length (image Two files))) TooLong ≡ Err e → second_image files ≡ Err e
unfolding second_image
second-long files e h = ap (λ r. r >>= λ _. rest files) h

pub second-scripts : (files : List File) (r : Result ⊤ SiteError) → length (image Two files) ≤ LONGEST_IMAGE → r ≡ scripts files 0 files
    → second_image files ≡ (r >>= λ _. Ok (image Two files))
unfolding second_image
second-scripts files r le s =
    ap (λ t. refuse t TooLong >>= λ _. rest files) (le-ltb LONGEST_IMAGE (length (image Two files)) le) ∙ ap (λ x. x >>= λ _. Ok (image Two files)) (sym s)

old-of : (words : List KindContent) (o : Option File) (file : File) → option_map (retyped words) o ≡ Some file → (old : File)
    × (o ≡ Some old) × (old.name ≡ file.name)
old-of words None file h = absurd cc
old-of words (Some f) file h = (f, refl, ap (λ (g : File). g.name) (same_Some (retyped words f) file h))

pub second-reads : (words : List KindContent) (olds : List File) → All (λ w. IsTrue (is_kind w.kind)) words → AreGood olds → AreApart olds
    → length olds ≤ MOST_FILES
    → length (image Two (upgraded words olds)) ≤ LONGEST_IMAGE → Ok tt ≡ scripts (upgraded words olds) 0 (upgraded words olds)
    → read_image (image Two (upgraded words olds)) ≡ Ok (upgraded words olds)
second-reads words olds kinds good apart few size sound =
    let files = upgraded words olds in
    let each = upgraded-good words olds kinds good in
    image-again (image Two files) files (
      Two,
      record {
        count = omega (arith, length-map olds (retyped words));
        each = λ k file s. (let known = each k file s in record { name = known.0; kind = known.1 });
        distinct = λ j k one other p q e.
            (let first = old-of words (slice_get olds j) one (sym (slice_get-map (retyped words) olds j) ∙ p) in
            let second = old-of words (slice_get olds k) other (sym (slice_get-map (retyped words) olds k) ∙ q) in
            apart j k first.0 second.0 first.1 second.1 (first.2 ∙ e ∙ sym second.2));
        size = size;
        scripts = scripts-sound files 0 files tt (sym sound);
      },
      refl,
    )
