-- The numbers of a node with both applications: those of the pages, then those of the application of the program's own.
use Rattle.uip_both_c.proofs.Prelude.{◌≡◌, ℕ, List, false, sym, ap, ◌∙◌, BothShared, DeviceWeb, OwnShared, WebContent, both, change_own}
use Rattle.uip_both_c.proofs.Prelude.{first_back, first_kept, numbers_of_first, pair_numbers, with_own, write_value}
use Rattle.uip_device.specs.contracts.value_pages.ValuePagesApp.TheImpl.{ghosts as page_ghosts}
use Rattle.own_app.specs.contracts.app.OwnAppApp.TheImpl.{ghosts as own_ghosts}

abbrev config_with : OwnShared → WebContent → both.Config
config_with second web = (web.site, own_ghosts.config second)

-- a value of the pages is set, which changes neither the site nor the open ports
pub config_kept : (old : BothShared) (first : DeviceWeb) → first.web ≡ old.first.web → both.config (record old { first = first }) ≡ both.config old
config_kept old first same = ap (λ (web : WebContent). config_with old.second web) same

-- nor the other numbers
pub value_set : (number : ℕ) (text : List ℕ) (old : BothShared) (first : DeviceWeb) → page_ghosts.numbers first ≡ write_value number text
    (page_ghosts.numbers old.first)
    → both.numbers (record old { first = first }) ≡ change_own false (write_value number text) (both.numbers old)
value_set number text old first set =
    let xs : List ℕ = page_ghosts.numbers old.first in
    let ys : List ℕ = own_ghosts.numbers old.second in
    ap (λ (l : List ℕ). pair_numbers l ys) set
    ∙ first_kept (write_value number text xs) xs ys
    ∙ ap (λ (l : List ℕ). with_own false (write_value number text l) (pair_numbers xs ys)) (sym (first_back xs ys))

-- the pages see their numbers
pub page_numbers : (xs ys numbers : List ℕ) → pair_numbers xs ys ≡ numbers → xs ≡ numbers_of_first numbers
page_numbers xs ys numbers is = sym (first_back xs ys) ∙ ap (λ (l : List ℕ). numbers_of_first l) is
