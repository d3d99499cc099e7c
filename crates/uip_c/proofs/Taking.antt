-- What a handle keeps, by its kind.
use Rattle.uip_c.proofs.Prelude.{◌≡◌, ◌∙◌, List, refl, sym, ap, false≢true, true, false, Some, WebDevice, EtherWeb, Kept, NoDevice, OnEther}
use Rattle.uip_c.proofs.Prelude.{OnLine, is_on_ether, is_on_line, node_in, kept_of, node_of, AnyDevice, Ether, Line, AbstractNode, Addr}
use Rattle.uip_c.proofs.Prelude.{File, HasAbstractNode, NodeRepresents}

pub line_of : (k : Kept) → is_on_line k ≡ true → (x : WebDevice) × (k ≡ OnLine x)
line_of NoDevice there = absurd (false≢true there)
line_of (OnLine x) there = (x, refl)
line_of (OnEther x) there = absurd (false≢true there)

pub ether_of : (k : Kept) → is_on_ether k ≡ true → (x : EtherWeb) × (k ≡ OnEther x)
ether_of NoDevice there = absurd (false≢true there)
ether_of (OnLine x) there = absurd (false≢true there)
ether_of (OnEther x) there = (x, refl)

-- without a device of either kind there is none
pub none_of : (k : Kept) → is_on_line k ≡ false → is_on_ether k ≡ false → k ≡ NoDevice
none_of NoDevice no_line no_ether = refl
none_of (OnLine x) no_line no_ether = absurd (false≢true (sym no_line))
none_of (OnEther x) no_line no_ether = absurd (false≢true (sym no_ether))

-- the node of a device that was taken out
pub node_kept : (any : AnyDevice) → node_in (kept_of any) ≡ Some (node_of any)
node_kept (Line b) = refl
node_kept (Ether b) = refl

-- what a call reads in the node of a device that was taken out
pub read_in_node : (P : List File → AbstractNode → Type 0) (any : AnyDevice) (kept : Kept) → kept_of any ≡ kept
    → ((files : List File) (own : Addr) (n : AbstractNode) → NodeRepresents files own (node_of any) n → P files n)
    → HasAbstractNode P kept
read_in_node P any kept taken reads = (node_of any, ap (λ (k : Kept). node_in k) (sym taken) ∙ node_kept any, reads)
