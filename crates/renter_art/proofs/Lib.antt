pub mod Arts
