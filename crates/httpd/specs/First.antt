-- The web server whose scripts call the functions of uIP.
use Rattle.generators.specs.declared.capture.Capture.{Capture}
use Rattle.httpd.specs.declared.httpd.Pages.{Pages}

abbrev pub Httpd : Type 0
Httpd = Pages Capture
