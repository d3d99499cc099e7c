-- The value of a desk by cases: it represents what the application in it represents.
use Rattle.telnet_shell.proofs.Prelude.{◌≡◌, ℕ, ◌≤◌, ◌==◌, List, length, sym, ap, ◌∙◌, subst, ∥∥₁_map, AppState, AppSpec, text_left}
use Rattle.telnet_shell.proofs.Prelude.{IsRepresented, CanSupply, SiteContent, files_of, web_spec, Httpd, HttpdRepresents, Shell}
use Rattle.telnet_shell.proofs.Prelude.{TELNET_PORT, Desk, shell_spec, ShellRepresents, app_spec_at, desk_spec, DeskRepresents, IsWebPart}
use Rattle.telnet_shell.proofs.Prelude.{IsShellPart, at_web, at_shell, web_left, shell_left}
use Rattle.telnet_shell.specs.declared.desk.Desk.TheVariants as desk

pub web_part : (d : Desk) (a : Httpd) (site : SiteContent) (p : AppState) → d ≡ desk.Web a → DeskRepresents d site p → IsWebPart a site p
web_part d a site p is s = subst (λ (e : Desk). DeskRepresents e site p) is s

pub shell_part : (d : Desk) (a : Shell) (site : SiteContent) (p : AppState) → d ≡ desk.Shell a → DeskRepresents d site p → IsShellPart a p
shell_part d a site p is s = subst (λ (e : Desk). DeskRepresents e site p) is s

pub web_has : (d : Desk) (a : Httpd) (site : SiteContent) → d ≡ desk.Web a → IsRepresented DeskRepresents d site → IsRepresented HttpdRepresents a site
web_has d a site is has = ∥∥₁_map has (λ c. (c.0, (web_part d a site c.0 is c.1).represented))

pub shell_has : (d : Desk) (a : Shell) (site : SiteContent) → d ≡ desk.Shell a → IsRepresented DeskRepresents d site
    → IsRepresented {A = Shell} {K = SiteContent} (λ b k p. ShellRepresents b p) a site
shell_has d a site is has = ∥∥₁_map has (λ c. (c.0, (shell_part d a site c.0 is c.1).represented))

fits : (m n : AppSpec) (p : AppState) (count : ℕ) → text_left m p ≡ text_left n p → count ≤ length (text_left m p) → count ≤ length (text_left n p)
fits m n p count e h = subst (λ (xs : List ℕ). count ≤ length xs) e h

pub web_can : (d : Desk) (a : Httpd) (site : SiteContent) (count : ℕ) → d ≡ desk.Web a → CanSupply (λ s. desk_spec (files_of s)) DeskRepresents d site count
    → CanSupply (λ s. web_spec (files_of s)) HttpdRepresents a site count
web_can d a site count is can = ∥∥₁_map can (λ c.
    let w = web_part d a site c.0 is c.1 in
    (c.0, w.represented, fits (desk_spec (files_of site)) (web_spec (files_of site)) c.0 count (web_left (files_of site) c.0 w.port) c.2))

pub shell_can : (d : Desk) (a : Shell) (site : SiteContent) (count : ℕ) → d ≡ desk.Shell a → CanSupply (λ s. desk_spec (files_of s)) DeskRepresents d site count
    → CanSupply {A = Shell} {K = SiteContent} (λ s. shell_spec) (λ b k p. ShellRepresents b p) a site count
shell_can d a site count is can = ∥∥₁_map can (λ c.
    let w = shell_part d a site c.0 is c.1 in
    (c.0, w.represented, fits (desk_spec (files_of site)) shell_spec c.0 count (shell_left (files_of site) c.0 w.port) c.2))

-- what holds of the application of a port holds of the desk there
pub by_web : (P : AppSpec → Type 0) (d : Desk) (a : Httpd) (site : SiteContent) (p : AppState) → d ≡ desk.Web a → DeskRepresents d site p
    → (IsWebPart a site p → P (web_spec (files_of site))) → P (app_spec_at (files_of site) p.port)
by_web P d a site p is s h = (let at = web_part d a site p is s in subst P (sym (at_web (files_of site) p.port at.port)) (h at))

pub by_shell : (P : AppSpec → Type 0) (d : Desk) (a : Shell) (site : SiteContent) (p : AppState) → d ≡ desk.Shell a → DeskRepresents d site p
    → (IsShellPart a p → P shell_spec) → P (app_spec_at (files_of site) p.port)
by_shell P d a site p is s h = (let at = shell_part d a site p is s in subst P (sym (at_shell (files_of site) p.port at.port)) (h at))

-- the connection of the web server in a desk represents the next state, and so does the desk
pub web_moves : (d : Desk) (a b : Httpd) (site : SiteContent) (f : AppSpec → AppState → AppState) → d ≡ desk.Web a
    → ((p : AppState) → (f (web_spec (files_of site)) p).port ≡ p.port)
    → ((p : AppState) → HttpdRepresents a site p → HttpdRepresents b site (f (web_spec (files_of site)) p)) → (p : AppState)
    → DeskRepresents d site p → IsWebPart b site (f (app_spec_at (files_of site) p.port) p)
web_moves d a b site f is keeps moves p s =
    by_web (λ (m : AppSpec). IsWebPart b site (f m p)) d a site p is s
    (λ at. record { port = ap (λ (port : ℕ). port == TELNET_PORT) (keeps p) ∙ at.port; represented = moves p at.represented })

pub shell_moves : (d : Desk) (a b : Shell) (site : SiteContent) (f : AppSpec → AppState → AppState) → d ≡ desk.Shell a
    → ((p : AppState) → (f shell_spec p).port ≡ p.port)
    → ((p : AppState) → ShellRepresents a p → ShellRepresents b (f shell_spec p)) → (p : AppState) → DeskRepresents d site p
    → IsShellPart b (f (app_spec_at (files_of site) p.port) p)
shell_moves d a b site f is keeps moves p s =
    by_shell (λ (m : AppSpec). IsShellPart b (f m p)) d a site p is s
    (λ at. record { port = ap (λ (port : ℕ). port == TELNET_PORT) (keeps p) ∙ at.port; represented = moves p at.represented })

-- what the connection in a desk answers is what the desk does
pub web_reports : {X : Type 0} (d : Desk) (a : Httpd) (site : SiteContent) (x : X) (f : AppSpec → AppState → X) → d ≡ desk.Web a
    → ((p : AppState) → HttpdRepresents a site p → x ≡ f (web_spec (files_of site)) p) → (p : AppState) → DeskRepresents d site p
    → x ≡ f (app_spec_at (files_of site) p.port) p
web_reports d a site x f is tells p s = by_web (λ (m : AppSpec). x ≡ f m p) d a site p is s (λ at. tells p at.represented)

pub shell_reports : {X : Type 0} (d : Desk) (a : Shell) (site : SiteContent) (x : X) (f : AppSpec → AppState → X) → d ≡ desk.Shell a
    → ((p : AppState) → ShellRepresents a p → x ≡ f shell_spec p) → (p : AppState) → DeskRepresents d site p → x ≡ f (app_spec_at (files_of site) p.port) p
shell_reports d a site x f is tells p s = by_shell (λ (m : AppSpec). x ≡ f m p) d a site p is s (λ at. tells p at.represented)
