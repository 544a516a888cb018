-- What stands in a page's buffer, and its place. Definitions only.
use Rattle.text.specs.Page as text
use Rattle.text.specs.declared.page.Page.{Page}

abbrev pub seen : Page → text.Page
seen p = text.page p.out.now p.at
