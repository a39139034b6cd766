pub mod Why
pub mod SearchPictures
pub use Rattle.show_certificate_lines.specs.Demands
